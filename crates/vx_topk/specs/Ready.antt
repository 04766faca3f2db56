-- For the checker: no public clause cites this.
-- What is made ready before the first block: the key's type, the scan of the bounded filter and of the packed key and projection, and the pruning rule.
use Rattle.std.specs.Prelude.{◌≡◌, nat_eq, true, false, [], ◌∷◌, None, Option, Some, Result, Ok, Err}
use Rattle.vx_dtype.specs.Types.{Bytes, Ty}
use Rattle.vx_dtype.specs.TypeRules.{is_plain, is_bool_ty, field_type, no_name_twice}
use Rattle.vx_dtype.specs.TypeViews.{type_view}
use Rattle.vx_dtype.specs.declared.types.DType.{DType}
use Rattle.vx_expr.specs.Trees.{Tree}
use Rattle.vx_semantics.specs.Typing.{typed_of}
use Rattle.vx_semantics.specs.Tables.{Zones, row_type}
use Rattle.vx_laws_topk.specs.TopRows.{TopAsk, bounded_filter}
use Rattle.vx_laws_topk.specs.TopLaws.{has_no_slot}
use Rattle.vx_laws_topk.specs.TopPhases.{keyed_projection}
use Rattle.vx_laws_topk.specs.BoundLaws.{IsTypedAsk, keyed_type}
use Rattle.vx_block_pruning.specs.PruningRules.{IsRuleOf}
use Rattle.vx_scan.specs.ErrorKinds.{ErrorKind, of_memory, kind_of, OnlyOfTypes}
use Rattle.vx_scan.specs.Scanning.{scan_type}
use Rattle.vx_scan.specs.Opening.{IsPreparedScan}
use Rattle.vx_scan.specs.declared.errors.ScanError.{ScanError}
use Rattle.vx_topk.specs.TopEnds.{IsTypedTop, top_ask}
use Rattle.vx_topk.specs.declared.errors.TopError.{TopError}
use Rattle.vx_topk.specs.declared.errors.TopError.TheVariants as errors
use Rattle.vx_topk.specs.declared.ready.TopScan.{TopScan}

-- the error that an error of a scan, of this kind, is here
abbrev pub kind_top_error : ErrorKind → ScanError → TopError
kind_top_error of_memory e = errors.NoMemory
kind_top_error _ e = errors.Scan e

abbrev pub top_error : ScanError → TopError
top_error e = kind_top_error (kind_of e) e

-- the type, where it is plain
abbrev pub GivesPlain : Ty → Result DType TopError → Type 0
GivesPlain t (Ok d) = (t ≡ type_view d) × (is_plain t ≡ true)
GivesPlain t (Err e) = (e ≡ errors.BadKey) × (is_plain t ≡ false)

-- the type of the key's column, where it is plain, or the refusal
abbrev pub GivesKey : Zones → Bytes → Result DType TopError → Type 0
GivesKey zones key (Ok t) = (field_type key zones.columns ≡ Some (type_view t)) × (is_plain (type_view t) ≡ true)
GivesKey zones key (Err errors.NoMemory) = Unit {0}
GivesKey zones key (Err errors.UnknownKey) = field_type key zones.columns ≡ None
GivesKey zones key (Err errors.BadKey) = (t : Ty) × (field_type key zones.columns ≡ Some t) × (is_plain t ≡ false)
GivesKey zones key (Err (errors.Scan e)) = ⊥

-- filter and projection as they were given are strictly typed over the rows of a table, in whose type no name stands twice
pub record AreTyped (zones : Zones) (f p : Tree) (ty : Ty) : Type 0 where
  pub names : no_name_twice (row_type zones.columns) ≡ true
  pub filter_type : Ty
  pub filter_typed : typed_of (row_type zones.columns) f ≡ Ok filter_type
  pub boolean : is_bool_ty filter_type ≡ true
  pub projection_typed : typed_of (row_type zones.columns) p ≡ Ok ty
  pub scanned : scan_type (row_type zones.columns) [] f p ≡ Ok ty

-- the projection's type, or the first refusal of their typing
abbrev pub GivesType : Zones → Tree → Tree → Result DType ScanError → Type 0
GivesType zones f p (Ok d) = AreTyped zones f p (type_view d)
GivesType zones f p (Err e) = OnlyOfTypes (kind_of e) (scan_type (row_type zones.columns) [] f p ≡ Err e)

-- what is asked of a table is typed, and compares with no slot; some row is asked
pub record CanBeReady (zones : Zones) (ask : TopAsk) (v : Ty) : Type 0 where
  pub filter_type : Ty
  pub typed : IsTypedAsk zones.columns ask filter_type v
  pub filter_slots : has_no_slot ask.filter_expr ≡ true
  pub projection_slots : has_no_slot ask.projection ≡ true

-- what is asked of a table is ready for each of its blocks, with any bound
pub record IsReady (zones : Zones) (ask : TopAsk) (v : Ty) (top : TopScan) : Type 0 where
  pub can : CanBeReady zones ask v
  pub key : type_view top.key_dtype ≡ ask.key_type
  pub prepared : IsPreparedScan zones (None ∷ []) (bounded_filter ask) (keyed_projection ask) top.scan
  pub rows : type_view top.scan.projection.dtype ≡ keyed_type ask.key_type v
  pub rule : IsRuleOf zones (bounded_filter ask) top.rule
