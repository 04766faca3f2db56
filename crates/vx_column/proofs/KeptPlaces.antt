-- The rows that are kept, by the places at which truths are true.
use Rattle.std.proofs.Common.{◌≡◌, ℕ, suc, zero, ◌+◌, ◌-◌, ◌<◌, ◌≤◌, List, [], ◌∷◌, ◌++◌, get_or, length, drop, Bool, false, cond, Option, None, ◌∙◌, sym, ap, refl, arith}
use Rattle.std.proofs.lemmas.List.{drop_more, drop_all, append_assoc, append-nil}
use Rattle.vx_dtype.specs.Types.{Ty}
use Rattle.vx_dtype.specs.Values.{Val, null_val}
use Rattle.vx_dtype.specs.RawViews.{raw_view}
use Rattle.vx_dtype.specs.declared.values.ScalarValue.{ScalarValue}
use Rattle.vx_dtype.specs.Values.{valued}
use Rattle.vx_words.specs.Words.{IsFirstPlace, IsNextPlace}
use Rattle.vx_words.specs.Truths.{true_at, vals_of}
use Rattle.vx_column.specs.Columns.{seen, seen_rows, kept_rows}
use Rattle.vx_column.proofs.RowLemmas.{seen_row, seen_rows_append}
use Rattle.vx_column.proofs.KeptLemmas.{length_seen}
use Rattle.vx_column.proofs.TruthLemmas.{length_vals, is_true_at}

module _ (vs : List Val) (ts : List (Option Bool)) (long : length vs ≡ length ts) where
  -- what is kept from a place on
  abbrev kept_from : ℕ → List Val
  kept_from i = kept_rows (drop i vs) (drop i (vals_of ts))

  kept_here : (i : ℕ) → i < length ts → kept_from i ≡ cond (true_at ts i) (get_or vs i null_val ∷ kept_from (i + 1)) (kept_from (i + 1))
  kept_here i h =
      let values = length_vals ts in
      (λ k. kept_rows (drop_more vs i null_val (omega (arith, long)) k) (drop_more (vals_of ts) i null_val (omega (arith, values)) k))
      ∙ ap (λ b. cond b (get_or vs i null_val ∷ kept_from (i + 1)) (kept_from (i + 1))) (is_true_at ts i (get_or ts i None) refl)

  kept_past : (i : ℕ) → length ts ≤ i → kept_from i ≡ []
  kept_past i h =
      let values = length_vals ts in
      λ k. kept_rows (drop_all i vs (omega (arith, long)) k) (drop_all i (vals_of ts) (omega (arith, values)) k)

  -- nothing is kept of places at which no truth is true
  kept_skip : (d i j : ℕ) → j ≡ i + d → j ≤ length ts → ((p : ℕ) → i ≤ p → p < j → true_at ts p ≡ false) → kept_from i ≡ kept_from j
  kept_skip zero i j e h none = ap kept_from (let same : i ≡ j = omega arith in same)
  kept_skip (suc d) i j e h none =
      kept_here i (omega arith)
      ∙ ap (λ b. cond b (get_or vs i null_val ∷ kept_from (i + 1)) (kept_from (i + 1))) (none i (omega arith) (omega arith))
      ∙ kept_skip d (i + 1) j (omega arith) h (λ p lo hi. none p (omega arith) hi)

  kept_at_first : (from i : ℕ) → IsFirstPlace (true_at ts) (length ts) from i → kept_from from ≡ get_or vs i null_val ∷ kept_from (i + 1)
  kept_at_first from i first =
      let after = first.from_there in
      let inside = first.within in
      kept_skip (i - from) from i (omega arith) (omega arith) first.none_before
      ∙ kept_here i inside
      ∙ ap (λ b. cond b (get_or vs i null_val ∷ kept_from (i + 1)) (kept_from (i + 1))) first.holds

  -- one row more that is kept
  kept_step : (made : List Val) (from i : ℕ) → IsFirstPlace (true_at ts) (length ts) from i → made ++ kept_from from ≡ kept_rows vs (vals_of ts)
      → (made ++ get_or vs i null_val ∷ []) ++ kept_from (i + 1) ≡ kept_rows vs (vals_of ts)
  kept_step made from i first so_far =
      append_assoc made (get_or vs i null_val ∷ []) (kept_from (i + 1))
      ∙ ap (λ xs. made ++ xs) (sym (kept_at_first from i first))
      ∙ so_far

  -- no row more that is kept
  pub kept_rows_end : (made : List Val) (from : ℕ) → from ≤ length ts → IsNextPlace (true_at ts) (length ts) from None
      → made ++ kept_rows (drop from vs) (drop from (vals_of ts)) ≡ kept_rows vs (vals_of ts) → made ≡ kept_rows vs (vals_of ts)
  kept_rows_end made from h none so_far =
      sym (append-nil made)
      ∙ ap (λ xs. made ++ xs)
      (sym (kept_skip (length ts - from) from (length ts) (omega arith) (omega arith) none ∙ kept_past (length ts) (omega arith)))
      ∙ so_far

-- one value more that is kept
pub kept_value_step : (t : Ty) (xs : List ScalarValue) (ts : List (Option Bool)) → length xs ≡ length ts → (ms ns : List ScalarValue) (from i : ℕ) (x m : ScalarValue) → IsFirstPlace (true_at ts) (length ts) from i → x ≡ get_or xs i x → raw_view m ≡ raw_view x → ns ≡ ms ++ m ∷ []
    → seen_rows t ms ++ kept_rows (drop from (seen_rows t xs)) (drop from (vals_of ts)) ≡ kept_rows (seen_rows t xs) (vals_of ts)
    → seen_rows t ns ++ kept_rows (drop (i + 1) (seen_rows t xs)) (drop (i + 1) (vals_of ts)) ≡ kept_rows (seen_rows t xs) (vals_of ts)
kept_value_step t xs ts long ms ns from i x m first is v e so_far =
    let inside = first.within in
    let rows : length (seen_rows t xs) ≡ length ts = length_seen t xs ∙ long in
    let value : seen t m ≡ get_or (seen_rows t xs) i null_val = ap (λ r. valued r t) v ∙ ap (seen t) is ∙ seen_row t xs i x (omega (arith, long)) in
    let items : seen_rows t ns ≡ seen_rows t ms ++ get_or (seen_rows t xs) i null_val ∷ [] = ap (seen_rows t) e ∙ seen_rows_append t ms m ∙ ap (λ w. seen_rows t ms ++ w ∷ []) value in
    ap (λ us. us ++ kept_rows (drop (i + 1) (seen_rows t xs)) (drop (i + 1) (vals_of ts))) items ∙ kept_step (seen_rows t xs) ts rows (seen_rows t ms) from i first so_far
