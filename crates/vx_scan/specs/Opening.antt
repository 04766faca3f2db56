-- What a scan opens before its first block: the expressions that its texts spell, both of them typed and prepared, and with them the scan that is ready.
use Rattle.std.specs.Prelude.{◌≡◌, Bool, true, Result, Ok, Err}
use Rattle.vx_dtype.specs.Types.{Bytes, Fields}
use Rattle.vx_dtype.specs.TypeRules.{is_bool_ty, no_name_twice}
use Rattle.vx_dtype.specs.TypeViews.{type_view}
use Rattle.vx_expr.specs.Trees.{Tree}
use Rattle.vx_semantics.specs.Meaning.{Slots}
use Rattle.vx_semantics.specs.Slots.{slots_fit}
use Rattle.vx_semantics.specs.Tables.{Zones, row_type}
use Rattle.vx_wire.specs.declared.encodings.ExprEncoding.{ExprEncoding}
use Rattle.vx_prepare.specs.Preparing.{IsPrepared}
use Rattle.vx_prepare.specs.declared.prepared.PreparedExpr.{PreparedExpr}
use Rattle.vx_scan.specs.ErrorKinds.{kind_of, OnlyOfText, OnlyOfTypes}
use Rattle.vx_scan.specs.Texts.{SpellsTree, IsTextRefused}
use Rattle.vx_scan.specs.Scanning.{scan_type}
use Rattle.vx_scan.specs.declared.errors.Side.{Side}
use Rattle.vx_scan.specs.declared.errors.ScanError.{ScanError}
use Rattle.vx_scan.specs.declared.preparing.PreparedScan.{PreparedScan}

-- a text spells the expression, or is refused; want of memory may come at any time
abbrev pub Decodes : (ExprEncoding → Bool) → Side → Bytes → Result Tree ScanError → Type 0
Decodes holds side bytes (Ok e) = SpellsTree holds bytes e
Decodes holds side bytes (Err why) = OnlyOfText (kind_of why) (IsTextRefused holds side bytes why)

-- a filter and a projection are prepared over rows with these fields, and the filter is a boolean
pub record ArePrepared (fs : Fields) (slots : Slots) (f p : Tree) (both : PreparedExpr × PreparedExpr) : Type 0 where
  pub filter : IsPrepared fs slots f both.0
  pub boolean : is_bool_ty (type_view both.0.dtype) ≡ true
  pub projection : IsPrepared fs slots p both.1

-- both are prepared, or the refusal is the first of their typing; want of memory may come at any time
abbrev pub PreparesBoth : Fields → Slots → Tree → Tree → Result (PreparedExpr × PreparedExpr) ScanError → Type 0
PreparesBoth fs slots f p (Ok both) = ArePrepared fs slots f p both
PreparesBoth fs slots f p (Err why) = OnlyOfTypes (kind_of why) (scan_type (row_type fs) slots f p ≡ Err why)

-- a scan that is ready for each block of a table: both expressions are prepared over its rows, in whose type no name stands twice, and the filter is a boolean.
-- Of the slots it says only that they fit both
pub record IsPreparedScan (zones : Zones) (slots : Slots) (f p : Tree) (scan : PreparedScan) : Type 0 where
  pub distinct : no_name_twice (row_type zones.columns) ≡ true
  pub filter : IsPrepared zones.columns slots f scan.filter
  pub boolean : is_bool_ty (type_view scan.filter.dtype) ≡ true
  pub projection : IsPrepared zones.columns slots p scan.projection

-- a scan is made ready, or the refusal is the first before its blocks
abbrev pub PreparesScan : Zones → Slots → Tree → Tree → Result PreparedScan ScanError → Type 0
PreparesScan zones slots f p (Ok scan) = IsPreparedScan zones slots f p scan
PreparesScan zones slots f p (Err why) = OnlyOfTypes (kind_of why) (scan_type (row_type zones.columns) slots f p ≡ Err why)

-- a scan that is ready with some slots is so with all others that fit both expressions
abbrev pub OtherSlotsServe : Type 0
OtherSlotsServe =
    (zones : Zones) (slots others : Slots) (f p : Tree) (scan : PreparedScan) → IsPreparedScan zones slots f p scan
    → slots_fit others f ≡ true → slots_fit others p ≡ true → IsPreparedScan zones others f p scan
