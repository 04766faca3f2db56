-- The cells of a record by their places.
use Rattle.std.proofs.Common.{◌≡◌, ◌∙◌, refl, sym, ap, ℕ, zero, suc, ◌+◌, ◌<◌, ◌≤◌, cond, List, [], ◌∷◌, map, drop, length, get_or, Some, None}
use Rattle.std.specs.Option.{option_or}
use Rattle.std.specs.Str.{is_utf8}
use Rattle.std.proofs.lemmas.List.{drop_more, drop_all}
use Rattle.csv.specs.Records.{Row, field_at, fields_of}
use Rattle.vx_dtype.specs.Types.{Bytes, Ty}
use Rattle.vx_dtype.specs.declared.types.DType.{DType}
use Rattle.vx_dtype.specs.TypeViews.{type_view}
use Rattle.vx_dtype.specs.TypeRules.{is_plain}
use Rattle.vx_laws_csv.specs.Cells.{cell_at, takes}
use Rattle.vx_laws_csv.specs.Refusals.{not_text, not_plain, bad_cell}
use Rattle.vx_laws_csv.specs.Sheets.{text_refusal, row_refusal, rows_refusal}
use Rattle.vx_laws_csv.specs.CsvTables.{cells_refusal, values_refusal, plain_refusal}

pub cell-get : (i : ℕ) (cells : List Bytes) → cell_at i cells ≡ get_or cells i []
unfolding field_at
cell-get i [] = refl
cell-get zero (s ∷ cells) = refl
cell-get (suc i) (s ∷ cells) = cell-get i cells

-- the cells from a place on are the one there and those behind it
pub cells-more : (i : ℕ) (cells : List Bytes) → i < length cells → drop i cells ≡ cell_at i cells ∷ drop (i + 1) cells
cells-more i cells h = drop_more cells i [] h ∙ ap (λ (s : Bytes). s ∷ drop (i + 1) cells) (sym (cell-get i cells))

pub text-step : (row column i : ℕ) (cells : List Bytes) → i < length cells
    → text_refusal row column (drop i cells) ≡ cond (is_utf8 (cell_at i cells)) (text_refusal row (column + 1) (drop (i + 1) cells)) (Some (not_text row column))
text-step row column i cells h = ap (text_refusal row column) (cells-more i cells h)

pub text-end : (row column i : ℕ) (cells : List Bytes) → length cells ≤ i → text_refusal row column (drop i cells) ≡ None
text-end row column i cells h = ap (text_refusal row column) (drop_all i cells h)

pub rows-step : (width row i : ℕ) (rows : List Row) (r : Row) → i < length rows → r ≡ get_or rows i r
    → rows_refusal width row (map fields_of (drop i rows)) ≡ option_or (row_refusal width row (fields_of r)) (rows_refusal width (row + 1) (map fields_of (drop (i + 1) rows)))
rows-step width row i rows r h is =
    ap (λ (rs : List Row). rows_refusal width row (map fields_of rs)) (drop_more rows i r h)
    ∙ ap (λ (x : Row). option_or (row_refusal width row (fields_of x)) (rows_refusal width (row + 1) (map fields_of (drop (i + 1) rows)))) (sym is)

pub rows-end : (width row i : ℕ) (rows : List Row) → length rows ≤ i → rows_refusal width row (map fields_of (drop i rows)) ≡ None
rows-end width row i rows h = ap (λ (rs : List Row). rows_refusal width row (map fields_of rs)) (drop_all i rows h)

pub cells-step : (null : Bytes) (row i : ℕ) (dtypes : List DType) (d : DType) (cells : List Bytes) → i < length dtypes → d ≡ get_or dtypes i d
    → cells_refusal null row i (map type_view (drop i dtypes)) cells
    ≡ cond (takes null (type_view d) (cell_at i cells)) (cells_refusal null row (i + 1) (map type_view (drop (i + 1) dtypes)) cells) (Some (bad_cell row (i + 1) (cell_at i cells) (type_view d)))
cells-step null row i dtypes d cells h is =
    ap (λ (ds : List DType). cells_refusal null row i (map type_view ds) cells) (drop_more dtypes i d h)
    ∙ ap
    (λ (x : DType).
    cond (takes null (type_view x) (cell_at i cells)) (cells_refusal null row (i + 1) (map type_view (drop (i + 1) dtypes)) cells) (Some (bad_cell row (i + 1) (cell_at i cells) (type_view x))))
    (sym is)

pub cells-end : (null : Bytes) (row i : ℕ) (dtypes : List DType) (cells : List Bytes) → length dtypes ≤ i → cells_refusal null row i (map type_view (drop i dtypes)) cells ≡ None
cells-end null row i dtypes cells h = ap (λ (ds : List DType). cells_refusal null row i (map type_view ds) cells) (drop_all i dtypes h)

pub values-step : (null : Bytes) (ts : List Ty) (row i : ℕ) (rows : List Row) (r : Row) → i < length rows → r ≡ get_or rows i r
    → values_refusal null ts row (map fields_of (drop i rows))
    ≡ option_or (cells_refusal null row 0 ts (fields_of r)) (values_refusal null ts (row + 1) (map fields_of (drop (i + 1) rows)))
values-step null ts row i rows r h is =
    ap (λ (rs : List Row). values_refusal null ts row (map fields_of rs)) (drop_more rows i r h)
    ∙ ap (λ (x : Row). option_or (cells_refusal null row 0 ts (fields_of x)) (values_refusal null ts (row + 1) (map fields_of (drop (i + 1) rows)))) (sym is)

pub values-end : (null : Bytes) (ts : List Ty) (row i : ℕ) (rows : List Row) → length rows ≤ i → values_refusal null ts row (map fields_of (drop i rows)) ≡ None
values-end null ts row i rows h = ap (λ (rs : List Row). values_refusal null ts row (map fields_of rs)) (drop_all i rows h)

pub plain-step : (column i : ℕ) (dtypes : List DType) (d : DType) → i < length dtypes → d ≡ get_or dtypes i d
    → plain_refusal column (map type_view (drop i dtypes))
    ≡ cond (is_plain (type_view d)) (plain_refusal (column + 1) (map type_view (drop (i + 1) dtypes))) (Some (not_plain column (type_view d)))
plain-step column i dtypes d h is =
    ap (λ (ds : List DType). plain_refusal column (map type_view ds)) (drop_more dtypes i d h)
    ∙ ap (λ (x : DType). cond (is_plain (type_view x)) (plain_refusal (column + 1) (map type_view (drop (i + 1) dtypes))) (Some (not_plain column (type_view x)))) (sym is)

pub plain-end : (column i : ℕ) (dtypes : List DType) → length dtypes ≤ i → plain_refusal column (map type_view (drop i dtypes)) ≡ None
plain-end column i dtypes h = ap (λ (ds : List DType). plain_refusal column (map type_view ds)) (drop_all i dtypes h)
