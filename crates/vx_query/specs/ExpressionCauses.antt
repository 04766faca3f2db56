-- Why the expressions of a request are refused, or the bytes of a word.
use Rattle.std.specs.Prelude.{◌≡◌, true, false, Ok, Err}
use Rattle.vx_dtype.specs.Types.{Bytes, Ty}
use Rattle.vx_dtype.specs.TypeRules.{is_bool_ty}
use Rattle.vx_expr.specs.Trees.{Tree}
use Rattle.vx_semantics.specs.Tables.{row_type}
use Rattle.vx_semantics.specs.Typing.{Refusal, typed_of}
use Rattle.vx_wire.specs.Encodings.{is_default_kind}
use Rattle.vx_scan.specs.Texts.{AreRefused}
use Rattle.vx_scan.specs.declared.errors.Side.{Side}
use Rattle.vx_scan.specs.declared.errors.Side.TheVariants.{Filter, Projection, Text}
use Rattle.vx_scan.specs.declared.errors.ScanError.{ScanError}
use Rattle.vx_request.specs.Requests.{RequestedScan, request_of}
use Rattle.vx_query.specs.Running.{SpellsScan}

-- an input that holds a scan whose byte texts are refused so: the filter's, or the projection's behind a filter that is spelled
pub record HoldsBadText (refusal : ScanError) (input : Bytes) : Type 0 where
  pub asked : RequestedScan
  pub held : request_of input ≡ Ok asked
  pub refused : AreRefused is_default_kind asked.filter asked.projection refusal

-- an expression over the rows of a scan has this strict type; and it is refused so by the strict typing
abbrev pub IsTyped : RequestedScan → Tree → Ty → Type 0
IsTyped a e t = typed_of (row_type a.zones.columns) e ≡ Ok t

abbrev pub IsUntyped : RequestedScan → Tree → Refusal → Type 0
IsUntyped a e refusal = typed_of (row_type a.zones.columns) e ≡ Err refusal

-- the filter is typed as a boolean; and it is typed otherwise
abbrev pub IsBoolean : RequestedScan → Tree → Type 0
IsBoolean a f = (t : Ty) × IsTyped a f t × (is_bool_ty t ≡ true)

abbrev pub IsNoBoolean : RequestedScan → Tree → Type 0
IsNoBoolean a f = (t : Ty) × IsTyped a f t × (is_bool_ty t ≡ false)

-- the typing refuses so: of the filter, or of the projection behind a filter that is a boolean
abbrev pub IsIllTyped : Side → Refusal → RequestedScan → Tree → Tree → Type 0
IsIllTyped Filter refusal a f p = IsUntyped a f refusal
IsIllTyped Projection refusal a f p = IsBoolean a f × IsUntyped a p refusal
IsIllTyped Text refusal a f p = ⊥

-- an input that holds a scan of a filter and a projection of which this is so
pub record HoldsExpressions (So : RequestedScan → Tree → Tree → Type 0) (input : Bytes) : Type 0 where
  pub asked : RequestedScan
  pub held : request_of input ≡ Ok asked
  pub filter : Tree
  pub projection : Tree
  pub spelled : SpellsScan asked filter projection
  pub so : So asked filter projection

abbrev pub HoldsIllTyped : Side → Refusal → Bytes → Type 0
HoldsIllTyped side refusal input = HoldsExpressions (IsIllTyped side refusal) input

abbrev pub HoldsNoBoolean : Bytes → Type 0
HoldsNoBoolean input = HoldsExpressions (λ a f p. IsNoBoolean a f) input
