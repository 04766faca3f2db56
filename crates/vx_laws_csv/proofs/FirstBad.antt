-- The cell of rows that is refused is the first that is no value of its column's type.
use Rattle.std.proofs.Common.{◌≡◌, ◌∙◌, refl, sym, ap, ℕ, zero, suc, ◌+◌, Bool, true, false, cond, List, [], ◌∷◌, take, Option, Some, None, slice_get, arith}
use Rattle.std.specs.Option.{option_or}
use Rattle.std.proofs.lemmas.Bool.{and_from}
use Rattle.std.proofs.lemmas.Option.{same_Some}
use Rattle.vx_dtype.specs.Types.{Bytes, Ty}
use Rattle.vx_laws_csv.specs.Cells.{takes, cell_at}
use Rattle.vx_laws_csv.specs.Refusals.{Refusal, bad_cell}
use Rattle.vx_laws_csv.specs.CsvTables.{cells_refusal, values_refusal, row_taken, rows_taken}
use Rattle.vx_laws_csv.specs.CsvLaws.{RefusedCellsAreFirst, UnrefusedCellsAreTaken}
use Rattle.vx_laws_csv.proofs.Taken.{cells-taken, values-taken}

-- ---- in a row

-- the first bad cell of a row from a place on: so many places behind it
record IsFirstCell (null : Bytes) (row i : ℕ) (ts : List Ty) (cells : List Bytes) (r : Refusal) : Type 0 where
  index : ℕ
  column : ℕ
  ty : Ty
  stands : column ≡ i + index
  told : r ≡ bad_cell row (column + 1) (cell_at column cells) ty
  type_there : slice_get ts index ≡ Some ty
  bad : takes null ty (cell_at column cells) ≡ false
  before : row_taken null i (take index ts) cells ≡ true

first-cell : (null : Bytes) (row i : ℕ) (ts : List Ty) (cells : List Bytes) (r : Refusal) → cells_refusal null row i ts cells ≡ Some r → IsFirstCell null row i ts cells r
first-cell null row i [] cells r h = absurd cc
first-cell null row i (t ∷ ts) cells r h =
    cell-by null row i t ts cells r (takes null t (cell_at i cells)) refl h (λ e. first-cell null row (i + 1) ts cells r e)
  where
    cell-by : (null : Bytes) (row i : ℕ) (t : Ty) (ts : List Ty) (cells : List Bytes) (r : Refusal) (b : Bool) → takes null t (cell_at i cells) ≡ b
        → cond b (cells_refusal null row (i + 1) ts cells) (Some (bad_cell row (i + 1) (cell_at i cells) t)) ≡ Some r
        → (cells_refusal null row (i + 1) ts cells ≡ Some r → IsFirstCell null row (i + 1) ts cells r) → IsFirstCell null row i (t ∷ ts) cells r
    cell-by null row i t ts cells r true is h later =
        let own = later h in
        let place = own.stands in
        record {
          index = suc own.index;
          column = own.column;
          ty = own.ty;
          stands = omega (arith, place);
          told = own.told;
          type_there = own.type_there;
          bad = own.bad;
          before = and_from (takes null t (cell_at i cells)) (row_taken null (i + 1) (take own.index ts) cells) is own.before;
        }
    cell-by null row i t ts cells r false is h later =
        record {
          index = zero;
          column = i;
          ty = t;
          stands = omega arith;
          told = sym (same_Some (bad_cell row (i + 1) (cell_at i cells) t) r h);
          type_there = refl;
          bad = is;
          before = refl;
        }

-- ---- among rows

record IsFirstRow (null : Bytes) (ts : List Ty) (row : ℕ) (rows : List (List Bytes)) (r : Refusal) : Type 0 where
  index : ℕ
  number : ℕ
  cells : List Bytes
  stands : number ≡ row + index
  row_there : slice_get rows index ≡ Some cells
  cell : IsFirstCell null number 0 ts cells r
  before : rows_taken null ts (take index rows) ≡ true

first-row : (null : Bytes) (ts : List Ty) (row : ℕ) (rows : List (List Bytes)) (r : Refusal) → values_refusal null ts row rows ≡ Some r → IsFirstRow null ts row rows r
first-row null ts row [] r h = absurd cc
first-row null ts row (cells ∷ rows) r h =
    row-by null ts row cells rows r (cells_refusal null row 0 ts cells) refl h (λ e. first-row null ts (row + 1) rows r e)
  where
    row-by : (null : Bytes) (ts : List Ty) (row : ℕ) (cells : List Bytes) (rows : List (List Bytes)) (r : Refusal) (o : Option Refusal)
        → cells_refusal null row 0 ts cells ≡ o → option_or o (values_refusal null ts (row + 1) rows) ≡ Some r
        → (values_refusal null ts (row + 1) rows ≡ Some r → IsFirstRow null ts (row + 1) rows r) → IsFirstRow null ts row (cells ∷ rows) r
    row-by null ts row cells rows r None is h later =
        let own = later h in
        let place = own.stands in
        record {
          index = suc own.index;
          number = own.number;
          cells = own.cells;
          stands = omega (arith, place);
          row_there = own.row_there;
          cell = own.cell;
          before = and_from (row_taken null 0 ts cells) (rows_taken null ts (take own.index rows)) (cells-taken null row 0 ts cells is) own.before;
        }
    row-by null ts row cells rows r (Some x) is h later =
        record {
          index = zero;
          number = row;
          cells = cells;
          stands = omega arith;
          row_there = refl;
          cell = first-cell null row 0 ts cells r (is ∙ h);
          before = refl;
        }

pub refused_cells_are_first : RefusedCellsAreFirst
refused_cells_are_first null ts rows r h =
    let found = first-row null ts 1 rows r h in
    let cell = found.cell in
    let row : found.number ≡ found.index + 1 = let place = found.stands in omega (arith, place) in
    let same : cell.index ≡ cell.column = let place = cell.stands in omega (arith, place) in
    record {
      row = found.index;
      column = cell.column;
      cells = found.cells;
      ty = cell.ty;
      told = cell.told ∙ ap (λ (n : ℕ). bad_cell n (cell.column + 1) (cell_at cell.column found.cells) cell.ty) row;
      row_there = found.row_there;
      type_there = ap (slice_get ts) (sym same) ∙ cell.type_there;
      bad = cell.bad;
      rows_before = found.before;
      cells_before = ap (λ (n : ℕ). row_taken null 0 (take n ts) found.cells) (sym same) ∙ cell.before;
    }

pub unrefused_cells_are_taken : UnrefusedCellsAreTaken
unrefused_cells_are_taken null ts rows h = values-taken null ts 1 rows h
