-- Cells as UTF-8.
use Rattle.std.proofs.Common.{◌≡◌, refl, ℕ, zero, suc, ◌+◌, ◌<◌, Bool, true, false, cond, List, [], ◌∷◌, map, get_or, Option, Some, None, ap, ◌∙◌, nat_eq, length, arith}
use Rattle.std.specs.List.{list_all}
use Rattle.std.specs.Option.{option_or}
use Rattle.std.specs.Str.{IsUtf8, is_utf8}
use Rattle.std.proofs.lemmas.Bool.{and_parts, and_from}
use Rattle.std.proofs.lemmas.Str.{IsUtf8-from_is_utf8, is_utf8-from_IsUtf8}
use Rattle.csv.specs.Records.{Row, field_at, fields_of}
use Rattle.vx_dtype.specs.Types.{Bytes}
use Rattle.vx_laws_csv.specs.Cells.{cell_at}
use Rattle.vx_laws_csv.specs.Refusals.{Refusal, not_text, other_length}
use Rattle.vx_laws_csv.specs.Sheets.{text_refusal, row_refusal, rows_refusal, are_texts}

pub known_text : (bs : List ℕ) → IsUtf8 bs → is_utf8 bs ≡ true
known_text bs h = is_utf8-from_IsUtf8 bs h

pub no_text : (bs : List ℕ) → (IsUtf8 bs → ⊥) → is_utf8 bs ≡ false
no_text bs h = by-test (is_utf8 bs) refl where
  by-test : (b : Bool) → is_utf8 bs ≡ b → b ≡ false
  by-test true is = absurd (h (IsUtf8-from_is_utf8 bs is))
  by-test false is = refl

pub text-known : (bs : List ℕ) → is_utf8 bs ≡ true → IsUtf8 bs
text-known bs h = IsUtf8-from_is_utf8 bs h

-- each cell of a row of texts is one, and so is the empty cell past its end
pub text-cell : (i : ℕ) (cells : List Bytes) → list_all is_utf8 cells ≡ true → is_utf8 (cell_at i cells) ≡ true
unfolding field_at
text-cell i [] h = known_text [] ([], (refl, refl))
text-cell zero (s ∷ cells) h = (and_parts (is_utf8 s) (list_all is_utf8 cells) h).0
text-cell (suc i) (s ∷ cells) h = text-cell i cells (and_parts (is_utf8 s) (list_all is_utf8 cells) h).1

-- each row of rows of texts
pub text-row : (i : ℕ) (rows : List Row) (r : Row) → are_texts (map fields_of rows) ≡ true → i < length rows → r ≡ get_or rows i r → list_all is_utf8 (fields_of r) ≡ true
text-row i [] r h within is = absurd (omega (arith, within))
text-row zero (x ∷ rows) r h within is =
    ap (λ (y : Row). list_all is_utf8 (fields_of y)) is ∙ (and_parts (list_all is_utf8 (fields_of x)) (are_texts (map fields_of rows)) h).0
text-row (suc i) (x ∷ rows) r h within is =
    text-row i rows r (and_parts (list_all is_utf8 (fields_of x)) (are_texts (map fields_of rows)) h).1 (omega (arith, within)) is

-- ---- rows that aren't refused are of texts

so-far : (b : Bool) (o : Option Refusal) (x : Refusal) → cond b o (Some x) ≡ None → (b ≡ true) × (o ≡ None)
so-far true o x h = (refl, h)
so-far false o x h = absurd cc

pub neither : (o p : Option Refusal) → option_or o p ≡ None → (o ≡ None) × (p ≡ None)
neither None p h = (refl, h)
neither (Some x) p h = absurd cc

pub cells-texts : (row column : ℕ) (cells : List Bytes) → text_refusal row column cells ≡ None → list_all is_utf8 cells ≡ true
cells-texts row column [] h = refl
cells-texts row column (s ∷ cells) h =
    let parts = so-far (is_utf8 s) (text_refusal row (column + 1) cells) (not_text row column) h in
    and_from (is_utf8 s) (list_all is_utf8 cells) parts.0 (cells-texts row (column + 1) cells parts.1)

row-texts : (width row : ℕ) (cells : List Bytes) → row_refusal width row cells ≡ None → list_all is_utf8 cells ≡ true
row-texts width row cells h = cells-texts row 1 cells (so-far (nat_eq (length cells) width) (text_refusal row 1 cells) (other_length row (length cells) width) h).1

pub rows-texts : (width row : ℕ) (rows : List (List Bytes)) → rows_refusal width row rows ≡ None → are_texts rows ≡ true
rows-texts width row [] h = refl
rows-texts width row (r ∷ rows) h =
    let parts = neither (row_refusal width row r) (rows_refusal width (row + 1) rows) h in
    and_from (list_all is_utf8 r) (are_texts rows) (row-texts width row r parts.0) (rows-texts width (row + 1) rows parts.1)
