-- What rows and tables that agree on the asked columns have in common.
use Rattle.std.specs.Prelude.{ℕ, suc, ◌≡◌, Bool, true, false, List, [], ◌∷◌, Ok}
use Rattle.std.specs.List.{list_all, All, AllZip}
use Rattle.vx_dtype.specs.Types.{Bytes, Ty, Fields}
use Rattle.vx_dtype.specs.Values.{Val}
use Rattle.vx_dtype.specs.Fits.{val_fits, fits_but_for_faults}
use Rattle.vx_dtype.specs.Structs.{field_of}
use Rattle.vx_expr.specs.Trees.{Tree}
use Rattle.vx_semantics.specs.Typing.{typed_of}
use Rattle.vx_semantics.specs.Meaning.{Slots, mean}
use Rattle.vx_semantics.specs.Breaks.{break_of}
use Rattle.vx_semantics.specs.Asked.{asked_nodes, asked_columns}
use Rattle.vx_semantics.specs.Tables.{Table, Zones, row_type}
use Rattle.vx_semantics.specs.Honest.{IsHonest}
use Rattle.vx_semantics.specs.Pruning.{rules_out}
use Rattle.vx_semantics.specs.Scans.{rows_of, reads_of}

-- two rows have the same values in these columns
abbrev pub AgreeOn : List Bytes → Val → Val → Type 0
AgreeOn columns a b = All (λ c. field_of c a ≡ field_of c b) columns

-- an expression that is strictly typed over the rows of these columns, and two rows of their type, but perhaps for faults in place of plain values,
-- that agree on its asked columns
pub record AreAlike (columns : Fields) (e : Tree) (u : Ty) (a b : Val) : Type 0 where
  pub typed : typed_of (row_type columns) e ≡ Ok u
  pub first_fits : fits_but_for_faults a (row_type columns) ≡ true
  pub second_fits : fits_but_for_faults b (row_type columns) ≡ true
  pub agree : AgreeOn (asked_columns (row_type columns) e) a b

-- rows that agree on the asked columns mean the same, faults included, with any slots
abbrev pub AgreeingRowsMeanTheSame : Type 0
AgreeingRowsMeanTheSame =
    (columns : Fields) (slots : Slots) (e : Tree) (u : Ty) (a b : Val) → AreAlike columns e u a b
    → mean (row_type columns) slots a e ≡ mean (row_type columns) slots b e

-- at them the same asked nodes break, by the same cause
abbrev pub AgreeingRowsBreakTheSame : Type 0
AgreeingRowsBreakTheSame =
    (columns : Fields) (slots : Slots) (e : Tree) (u : Ty) (a b : Val) → AreAlike columns e u a b
    → All (λ n. break_of (row_type columns) slots a n ≡ break_of (row_type columns) slots b n) (asked_nodes (row_type columns) e)

-- two tables have as many blocks, numbered from n, and in those blocks that the filter keeps as many rows, which agree on the columns
abbrev pub BlocksAgree : Zones → Slots → Tree → List Bytes → ℕ → List (List Val) → List (List Val) → Type 0
BlocksAgree zones slots filter_expr columns n [] [] = Unit {0}
BlocksAgree zones slots filter_expr columns n (rows ∷ blocks) (others ∷ more) =
    (rules_out zones slots n filter_expr ≡ false → AllZip (AgreeOn columns) rows others) × BlocksAgree zones slots filter_expr columns (suc n) blocks more
BlocksAgree zones slots filter_expr columns n _ _ = ⊥

-- each row of each block is a value of the type
abbrev pub all_rows_fit : Ty → List (List Val) → Bool
all_rows_fit t blocks = list_all (λ rows. list_all (λ row. val_fits row t) rows) blocks

-- two tables of one type whose blocks agree on the asked columns of the filter and of the projection
pub record TablesAgree (zones : Zones) (columns : Fields) (slots : Slots) (filter_expr projection : Tree) (blocks others : List (List Val)) : Type 0 where
  pub filter_type : Ty
  pub projection_type : Ty
  pub filter_typed : typed_of (row_type columns) filter_expr ≡ Ok filter_type
  pub projection_typed : typed_of (row_type columns) projection ≡ Ok projection_type
  pub first_fits : all_rows_fit (row_type columns) blocks ≡ true
  pub second_fits : all_rows_fit (row_type columns) others ≡ true
  pub filter_agrees : BlocksAgree zones slots filter_expr (asked_columns (row_type columns) filter_expr) 0 blocks others
  pub projection_agrees : BlocksAgree zones slots filter_expr (asked_columns (row_type columns) projection) 0 blocks others

-- the table of these columns and blocks
abbrev pub table_of : Fields → List (List Val) → Table
table_of columns blocks = record { columns = columns; blocks = blocks }

-- where the statistics are honest for both, such tables have the same rows
abbrev pub AgreeingTablesHaveTheSameRows : Type 0
AgreeingTablesHaveTheSameRows =
    (zones : Zones) (columns : Fields) (slots : Slots) (filter_expr projection : Tree) (blocks others : List (List Val))
    → TablesAgree zones columns slots filter_expr projection blocks others
    → IsHonest zones (table_of columns blocks) → IsHonest zones (table_of columns others)
    → rows_of (table_of columns blocks) slots filter_expr projection ≡ rows_of (table_of columns others) slots filter_expr projection

-- such tables have the same reads, honest or not
abbrev pub AgreeingTablesHaveTheSameReads : Type 0
AgreeingTablesHaveTheSameReads =
    (zones : Zones) (columns : Fields) (slots : Slots) (filter_expr projection : Tree) (blocks others : List (List Val))
    → TablesAgree zones columns slots filter_expr projection blocks others
    → reads_of (table_of columns blocks) zones slots filter_expr projection ≡ reads_of (table_of columns others) zones slots filter_expr projection
