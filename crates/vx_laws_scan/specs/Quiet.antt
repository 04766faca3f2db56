-- What a scan answers where none of its phases breaks.
use Rattle.std.specs.Prelude.{◌≡◌, true, false, Ok}
use Rattle.std.specs.List.{list_any}
use Rattle.vx_dtype.specs.Types.{Ty, Fields}
use Rattle.vx_dtype.specs.Fits.{holds_fault}
use Rattle.vx_expr.specs.Trees.{Tree}
use Rattle.vx_semantics.specs.Typing.{typed_of}
use Rattle.vx_semantics.specs.Meaning.{Slots}
use Rattle.vx_semantics.specs.Slots.{slots_fit}
use Rattle.vx_semantics.specs.Tables.{Table, Zones, row_type}
use Rattle.vx_semantics.specs.Scans.{kept_rows_of, some_phase_breaks}
use Rattle.vx_laws_scan.specs.Agreeing.{all_rows_fit}

-- an expression that is strictly typed over the rows of these columns, whose slots fit
pub record IsTyped (columns : Fields) (slots : Slots) (e : Tree) (u : Ty) : Type 0 where
  pub typed : typed_of (row_type columns) e ≡ Ok u
  pub fitting : slots_fit slots e ≡ true

-- where no phase breaks, no row of the kept blocks' answer holds a fault
abbrev pub QuietRowsHoldNoFault : Type 0
QuietRowsHoldNoFault =
    (table : Table) (zones : Zones) (slots : Slots) (filter_expr projection : Tree) (u : Ty)
    → IsTyped table.columns slots projection u → all_rows_fit (row_type table.columns) table.blocks ≡ true
    → some_phase_breaks table zones slots filter_expr projection ≡ false
    → list_any holds_fault (kept_rows_of table zones slots filter_expr projection) ≡ false
