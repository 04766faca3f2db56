-- Values of a column from a row on, one after another.
use Rattle.std.proofs.Common.{◌≡◌, ℕ, ◌+◌, ◌-◌, ◌<◌, ◌≤◌, refl, ap, sym, ◌∙◌, true, List, [], ◌∷◌, ◌++◌, take, drop, length, get_or, slice_range, arith}
use Rattle.std.specs.Prelude.{slice_index_or}
use Rattle.std.proofs.lemmas.List.{take_more, get_or-drop, length-drop}
use Rattle.vx_dtype.specs.Types.{Ty}
use Rattle.vx_dtype.specs.Values.{Val, null_val, valued}
use Rattle.vx_dtype.specs.Fits.{fits}
use Rattle.vx_dtype.specs.RawViews.{raw_view}
use Rattle.vx_dtype.specs.declared.values.ScalarValue.{ScalarValue}
use Rattle.vx_column.specs.Columns.{values_fit, seen, seen_rows}
use Rattle.vx_column.proofs.RowLemmas.{values_fit_more}

-- the rows from one on, with one more
range_more : (rows : List Val) (first i : ℕ) → first ≤ i → i < length rows → slice_range rows first (i + 1) ≡ slice_range rows first i ++ slice_index_or rows i null_val ∷ []
range_more rows first i le lt =
    let next : i + 1 - first ≡ i - first + 1 = omega (arith, le) in
    let at : first + (i - first) ≡ i = omega (arith, le) in
    let within : i - first < length (drop first rows) = omega (arith, le, lt, length-drop first rows) in
    ap (λ (n : ℕ). take n (drop first rows)) next ∙ take_more (drop first rows) (i - first) null_val within
    ∙ ap (λ (v : Val). take (i - first) (drop first rows) ++ v ∷ []) (get_or-drop first rows (i - first) null_val ∙ ap (λ (k : ℕ). get_or rows k null_val) at)

seen_more : (t : Ty) (xs : List ScalarValue) (x : ScalarValue) → seen_rows t (xs ++ x ∷ []) ≡ seen_rows t xs ++ seen t x ∷ []
seen_more t [] x = refl
seen_more t (y ∷ xs) x = ap (λ (vs : List Val). seen t y ∷ vs) (seen_more t xs x)

-- one value more, a clone of that at the row
pub run_step : (t : Ty) (rows : List Val) (first i : ℕ) (xs ys : List ScalarValue) (x y : ScalarValue) → first ≤ i → i < length rows → ys ≡ xs ++ x ∷ [] → raw_view x ≡ raw_view y
    → seen t y ≡ slice_index_or rows i null_val → fits (raw_view y) t ≡ true → values_fit t xs ≡ true → seen_rows t xs ≡ slice_range rows first i
    → (values_fit t ys ≡ true) × (seen_rows t ys ≡ slice_range rows first (i + 1))
run_step t rows first i xs ys x y le lt push clone value fit so_far seen_so_far =
    let own : fits (raw_view x) t ≡ true = ap (λ r. fits r t) clone ∙ fit in
    let last : seen t x ≡ slice_index_or rows i null_val = ap (λ r. valued r t) clone ∙ value in (
      ap (values_fit t) push ∙ values_fit_more t xs x so_far own,
      ap (seen_rows t) push ∙ seen_more t xs x ∙ (λ k. seen_so_far k ++ last k ∷ []) ∙ sym (range_more rows first i le lt),
    )
