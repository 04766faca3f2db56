-- Rows whose cells are values of their columns' types: none is refused, and each column of theirs has values of its type.
use Rattle.std.proofs.Common.{◌≡◌, ◌∙◌, refl, sym, ap, ℕ, ◌+◌, Bool, true, false, cond, List, [], ◌∷◌, map, take, drop, Option, Some, None, is_some, unwrap_or}
use Rattle.std.specs.List.{list_all}
use Rattle.std.specs.Option.{option_or}
use Rattle.std.proofs.lemmas.Bool.{and_parts, and_from, false≢true}
use Rattle.std.proofs.lemmas.List.Folds.{list_all-map}
use Rattle.vx_dtype.specs.Types.{Bytes, Ty}
use Rattle.vx_dtype.specs.Fits.{fits}
use Rattle.vx_dtype.specs.Values.{Raw, raw_null, valued}
use Rattle.vx_column.specs.Columns.{raws_fit, raw_rows}
use Rattle.vx_laws_csv.specs.Cells.{cell_raw, takes, raw_or_null, cell_val, cell_at}
use Rattle.vx_laws_csv.specs.FoundTypes.{all_taken, found_type, found_types}
use Rattle.vx_laws_csv.specs.Refusals.{Refusal, bad_cell}
use Rattle.vx_laws_csv.specs.CsvTables.{cells_refusal, values_refusal, row_taken, rows_taken, columns_taken}
use Rattle.vx_laws_csv.specs.CsvLaws.{NothingIsRefused}
use Rattle.vx_laws_csv.proofs.Lists.{all-so, all-drop, all-take, map-map}
use Rattle.vx_laws_csv.proofs.CellFacts.{cells_are_of_their_type}
use Rattle.vx_laws_csv.proofs.Found.{found_types_take_all}

-- ---- with types that are found

cells-found : (null : Bytes) (row i : ℕ) (names : List Bytes) (rows : List (List Bytes)) (r : List Bytes)
    → ((p : List Bytes → Bool) → list_all p rows ≡ true → p r ≡ true) → cells_refusal null row i (found_types null i names rows) r ≡ None
cells-found null row i [] rows r among = refl
cells-found null row i (f ∷ names) rows r among =
    let t = found_type null (map (cell_at i) rows) in
    let all = sym (list_all-map (takes null t) (cell_at i) rows) ∙ found_types_take_all null (map (cell_at i) rows) in
    let here : takes null t (cell_at i r) ≡ true = among (λ x. takes null t (cell_at i x)) all in
    ap (λ (b : Bool). cond b (cells_refusal null row (i + 1) (found_types null (i + 1) names rows) r) (Some (bad_cell row (i + 1) (cell_at i r) t))) here
    ∙ cells-found null row (i + 1) names rows r among

rows-found : (null : Bytes) (row : ℕ) (names : List Bytes) (rows left : List (List Bytes))
    → ((p : List Bytes → Bool) → list_all p rows ≡ true → list_all p left ≡ true) → values_refusal null (found_types null 0 names rows) row left ≡ None
rows-found null row names rows [] among = refl
rows-found null row names rows (r ∷ left) among =
    ap (λ (o : Option Refusal). option_or o (values_refusal null (found_types null 0 names rows) (row + 1) left))
    (cells-found null row 0 names rows r (λ p a. (and_parts (p r) (list_all p left) (among p a)).0))
    ∙ rows-found null (row + 1) names rows left (λ p a. (and_parts (p r) (list_all p left) (among p a)).1)

pub nothing_is_refused : NothingIsRefused
nothing_is_refused null names rows = rows-found null 1 names rows rows (λ p a. a)

-- ---- where nothing is refused each cell is taken

so-far : (b : Bool) (o : Option Refusal) (x : Refusal) → cond b o (Some x) ≡ None → (b ≡ true) × (o ≡ None)
so-far true o x h = (refl, h)
so-far false o x h = absurd cc

neither : (o p : Option Refusal) → option_or o p ≡ None → (o ≡ None) × (p ≡ None)
neither None p h = (refl, h)
neither (Some x) p h = absurd cc

pub cells-taken : (null : Bytes) (row i : ℕ) (ts : List Ty) (cells : List Bytes) → cells_refusal null row i ts cells ≡ None → row_taken null i ts cells ≡ true
cells-taken null row i [] cells h = refl
cells-taken null row i (t ∷ ts) cells h =
    let parts = so-far (takes null t (cell_at i cells)) (cells_refusal null row (i + 1) ts cells) (bad_cell row (i + 1) (cell_at i cells) t) h in
    and_from (takes null t (cell_at i cells)) (row_taken null (i + 1) ts cells) parts.0 (cells-taken null row (i + 1) ts cells parts.1)

pub values-taken : (null : Bytes) (ts : List Ty) (row : ℕ) (rows : List (List Bytes)) → values_refusal null ts row rows ≡ None → rows_taken null ts rows ≡ true
values-taken null ts row [] h = refl
values-taken null ts row (r ∷ rows) h =
    let parts = neither (cells_refusal null row 0 ts r) (values_refusal null ts (row + 1) rows) h in
    and_from (row_taken null 0 ts r) (rows_taken null ts rows) (cells-taken null row 0 ts r parts.0) (values-taken null ts (row + 1) rows parts.1)

-- so is each of a part of the rows
pub part-taken : (null : Bytes) (ts : List Ty) (from count : ℕ) (rows : List (List Bytes)) → rows_taken null ts rows ≡ true → rows_taken null ts (take count (drop from rows)) ≡ true
part-taken null ts from count rows h = all-take (row_taken null 0 ts) count (drop from rows) (all-drop (row_taken null 0 ts) from rows h)

-- and each of a column
columns-taken : (null : Bytes) (i : ℕ) (ts : List Ty) (rows : List (List Bytes)) → list_all (row_taken null i ts) rows ≡ true → columns_taken null i ts rows ≡ true
columns-taken null i [] rows h = refl
columns-taken null i (t ∷ ts) rows h =
    let whole = row_taken null i (t ∷ ts) in
    let own = λ (r : List Bytes). takes null t (cell_at i r) in
    let rest = row_taken null (i + 1) ts in
    let first : list_all own rows ≡ true = all-so whole own (λ r a. (and_parts (own r) (rest r) a).0) rows h in
    let others : list_all rest rows ≡ true = all-so whole rest (λ r a. (and_parts (own r) (rest r) a).1) rows h in
    and_from (all_taken null t (map (cell_at i) rows)) (columns_taken null (i + 1) ts rows)
    (list_all-map (takes null t) (cell_at i) rows ∙ first) (columns-taken null (i + 1) ts rows others)

pub rows-columns : (null : Bytes) (ts : List Ty) (rows : List (List Bytes)) → rows_taken null ts rows ≡ true → columns_taken null 0 ts rows ≡ true
rows-columns null ts rows h = columns-taken null 0 ts rows h

-- ---- the raw values of a column

fits-at : (null : Bytes) (t : Ty) (s : Bytes) (o : Option Raw) → cell_raw null t s ≡ o → is_some o ≡ true → fits (unwrap_or o raw_null) t ≡ true
fits-at null t s (Some x) e h = cells_are_of_their_type null t s x e
fits-at null t s None e h = absurd (false≢true h)

pub taken-fit : (null : Bytes) (t : Ty) (cells : List Bytes) → all_taken null t cells ≡ true → raws_fit t (map (raw_or_null null t) cells) ≡ true
taken-fit null t [] h = refl
taken-fit null t (s ∷ cells) h =
    let parts = and_parts (takes null t s) (all_taken null t cells) h in
    and_from (fits (raw_or_null null t s) t) (raws_fit t (map (raw_or_null null t) cells)) (fits-at null t s (cell_raw null t s) refl parts.0) (taken-fit null t cells parts.1)

-- they stand for the values of the column's cells
pub raws-mean : (null : Bytes) (i : ℕ) (t : Ty) (rows : List (List Bytes))
    → raw_rows t (map (raw_or_null null t) (map (cell_at i) rows)) ≡ map (λ r. cell_val null t (cell_at i r)) rows
raws-mean null i t rows =
    ap (raw_rows t) (map-map (raw_or_null null t) (cell_at i) rows)
    ∙ map-map (λ (x : Raw). valued x t) (λ (r : List Bytes). raw_or_null null t (cell_at i r)) rows
