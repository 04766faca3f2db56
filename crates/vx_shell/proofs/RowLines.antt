-- What is written of the lines of rows, piece by piece.
use Rattle.std.proofs.Common.{◌≡◌, true, Result, Ok, Err, OnErr, refl, ap, sym, ◌∙◌, ℕ, ◌+◌, ◌<◌, Option, List, [], ◌∷◌, ◌++◌, length, take, drop, append_assoc, append-nil, subst}
use Rattle.std.proofs.Math.ListN.{get_or}
use Rattle.std.proofs.lemmas.Bool.{and_parts}
use Rattle.std.proofs.lemmas.List.{take_more, drop_more, take-append-drop}
use Rattle.vx_column.specs.Columns.{seen, seen_rows, values_fit}
use Rattle.vx_dtype.specs.Fits.{fits}
use Rattle.vx_dtype.specs.RawViews.{raw_view}
use Rattle.vx_dtype.specs.Types.{Bytes, Ty}
use Rattle.vx_dtype.specs.Values.{Val}
use Rattle.vx_dtype.specs.declared.values.ScalarValue.{ScalarValue}
use Rattle.vx_io.specs.Ends.{Added, AddedPrefix}
use Rattle.vx_laws_shell.specs.Lines.{row_line, row_lines}
use Rattle.vx_laws_shell.proofs.Adding.{added_nothing, added_none_of, added_both, prefix_of_more, prefix_behind}
use Rattle.vx_laws_shell.proofs.OrderedRuns.{lines_append}
use Rattle.vx_shell.specs.Pieces.{WritesFirst}

-- ---- pieces

pub first_none : (at : Option Bytes) (lines : Bytes) → WritesFirst at at lines lines
first_none at lines = ([], added_nothing at, refl)

pub first_more : (before after : Option Bytes) (lines left more : Bytes) → WritesFirst before after lines left → WritesFirst before after (lines ++ more) (left ++ more)
first_more before after lines left more h = (h.0, h.1, ap (λ (xs : Bytes). xs ++ more) h.2 ∙ append_assoc h.0 left more)

pub first_on : (before middle after : Option Bytes) (lines left rest : Bytes) → WritesFirst before middle lines left → WritesFirst middle after left rest
    → WritesFirst before after lines rest
first_on before middle after lines left rest h k = (
  h.0 ++ k.0,
  added_both before middle after h.0 k.0 h.1 k.1,
  h.2 ∙ ap (λ (xs : Bytes). h.0 ++ xs) k.2 ∙ sym (append_assoc h.0 k.0 rest),
)

-- all that was left is written
pub first_whole : (before middle after : Option Bytes) (lines left : Bytes) → WritesFirst before middle lines left → Added middle after left → Added before after lines
first_whole before middle after lines left h k = subst (Added before after) (sym h.2) (added_both before middle after h.0 left h.1 k)

pub whole_first : (before after : Option Bytes) (lines : Bytes) → Added before after lines → WritesFirst before after lines []
whole_first before after lines h = (lines, h, sym (append-nil lines))

-- first bytes of what was left are written, or none
pub first_cut : (before middle after : Option Bytes) (lines left more : Bytes) → WritesFirst before middle lines left → AddedPrefix middle after left
    → AddedPrefix before after (lines ++ more)
first_cut before middle after lines left more h k =
    prefix_of_more before after lines more (subst (AddedPrefix before after) (sym h.2) (prefix_behind before middle after h.0 left h.1 k))

pub first_stays : (before middle : Option Bytes) (lines left more : Bytes) → WritesFirst before middle lines left → AddedPrefix before middle (lines ++ more)
first_stays before middle lines left more h = first_cut before middle middle lines left more h (added_none_of middle left)

-- ---- rows

seen_append : (t : Ty) (xs ys : List ScalarValue) → seen_rows t (xs ++ ys) ≡ seen_rows t xs ++ seen_rows t ys
seen_append t [] ys = refl
seen_append t (x ∷ xs) ys = ap (λ (vs : List Val). seen t x ∷ vs) (seen_append t xs ys)

-- the lines of the rows so far and of one more
pub one_more_line : (t : Ty) (rows : List ScalarValue) (i : ℕ) (row : ScalarValue) → i < length rows → row ≡ get_or rows i row
    → row_lines (seen_rows t (take (i + 1) rows)) ≡ row_lines (seen_rows t (take i rows)) ++ row_line (seen t row)
one_more_line t rows i row within is =
    ap (λ (xs : List ScalarValue). row_lines (seen_rows t xs)) (take_more rows i row within ∙ ap (λ (x : ScalarValue). take i rows ++ x ∷ []) (sym is))
    ∙ ap row_lines (seen_append t (take i rows) (row ∷ [])) ∙ lines_append (seen_rows t (take i rows)) (seen t row ∷ [])
    ∙ ap (λ (line : Bytes). row_lines (seen_rows t (take i rows)) ++ line) (append-nil (row_line (seen t row)))

-- the lines of some first rows, and of those behind them
pub lines_split : (t : Ty) (rows : List ScalarValue) (i : ℕ)
    → row_lines (seen_rows t (take i rows)) ++ row_lines (seen_rows t (drop i rows)) ≡ row_lines (seen_rows t rows)
lines_split t rows i =
    sym (lines_append (seen_rows t (take i rows)) (seen_rows t (drop i rows))) ∙ ap row_lines (sym (seen_append t (take i rows) (drop i rows)))
    ∙ ap (λ (xs : List ScalarValue). row_lines (seen_rows t xs)) (take-append-drop i rows)

-- wherever first bytes of some first lines were written, they are first bytes of all
pub cut_of_all : (t : Ty) (rows : List ScalarValue) (i : ℕ) (before after : Option Bytes)
    → AddedPrefix before after (row_lines (seen_rows t (take i rows)) ++ row_lines (seen_rows t (drop i rows))) → AddedPrefix before after (row_lines (seen_rows t rows))
cut_of_all t rows i before after h = subst (AddedPrefix before after) (lines_split t rows i) h

-- the rows behind one are of the type
pub fit_behind : (t : Ty) (rows : List ScalarValue) (i : ℕ) (row : ScalarValue) → i < length rows → values_fit t (drop i rows) ≡ true
    → values_fit t (drop (i + 1) rows) ≡ true
fit_behind t rows i row within h =
    (and_parts (fits (raw_view (get_or rows i row)) t) (values_fit t (drop (i + 1) rows)) (ap (values_fit t) (sym (drop_more rows i row within)) ∙ h)).1

-- what holds where there is a refusal
pub on_err : {T E P : Type 0} (r : Result T E) → P → OnErr r P
on_err (Ok x) p = tt
on_err (Err e) p = p
