-- Truths that connectives, negation and rules make of those of columns.
use Rattle.std.proofs.Common.{◌≡◌, refl, ap, ◌∙◌, sym, ℕ, ◌+◌, ◌<◌, Bool, true, false, Option, Some, None, List, [], ◌∷◌, ◌++◌, map, length, take, arith, add-one}
use Rattle.std.proofs.Math.ListN.{replicate}
use Rattle.vx_dtype.specs.declared.Nullability.{Nullability}
use Rattle.vx_dtype.specs.TypeRules.{union}
use Rattle.vx_dtype.specs.Values.{Val, null_val}
use Rattle.vx_dtype.specs.Logic.{not3}
use Rattle.vx_words.specs.Words.{truth_val}
use Rattle.vx_words.specs.Truths.{vals_of}
use Rattle.vx_column.specs.RawParts.{truth_fits}
use Rattle.vx_column.specs.Columns.{Column, row_at, zip_rows}
use Rattle.vx_column.specs.ColumnParts.{truths_fit}
use Rattle.vx_kernels.specs.declared.logic.Connective.{Connective}
use Rattle.vx_kernels.specs.declared.logic.Connective.TheVariants.{And, Or}
use Rattle.vx_kernels.specs.Connectives.{connected3}
use Rattle.vx_column.proofs.FitLemmas.{both_of, of_both, nullable_left, nullable_right}
use Rattle.vx_kernels.proofs.ZippedRows.{zip_rows_suc, zip_rows_repeated}

-- one truth more
pub vals_append : (ts : List (Option Bool)) (t : Option Bool) → vals_of (ts ++ t ∷ []) ≡ vals_of ts ++ truth_val t ∷ []
vals_append [] t = refl
vals_append (u ∷ ts) t = ap (λ vs. truth_val u ∷ vs) (vals_append ts t)

pub truths_fit_more : (n : Nullability) (ts : List (Option Bool)) (t : Option Bool) → truths_fit n ts ≡ true → truth_fits n t ≡ true → truths_fit n (ts ++ t ∷ []) ≡ true
truths_fit_more n [] t e h = of_both _ _ h refl
truths_fit_more n (u ∷ ts) t e h =
    let both = both_of (truth_fits n u) (truths_fit n ts) e in
    of_both _ _ both.0 (truths_fit_more n ts t both.1 h)

-- where a connective gives no truth, one side has none
connected_truth_fits : (k : Connective) (n m : Nullability) (l r t : Option Bool) → truth_val t ≡ connected3 k (truth_val l) (truth_val r) → truth_fits n l ≡ true → truth_fits m r ≡ true → truth_fits (union n m) t ≡ true
connected_truth_fits k n m l r (Some b) e p q = refl
connected_truth_fits k n m None r None e p q = nullable_left n m p
connected_truth_fits k n m (Some a) None None e p q = nullable_right n m q
connected_truth_fits And n m (Some true) (Some true) None e p q = absurd cc
connected_truth_fits And n m (Some true) (Some false) None e p q = absurd cc
connected_truth_fits And n m (Some false) (Some true) None e p q = absurd cc
connected_truth_fits And n m (Some false) (Some false) None e p q = absurd cc
connected_truth_fits Or n m (Some true) (Some true) None e p q = absurd cc
connected_truth_fits Or n m (Some true) (Some false) None e p q = absurd cc
connected_truth_fits Or n m (Some false) (Some true) None e p q = absurd cc
connected_truth_fits Or n m (Some false) (Some false) None e p q = absurd cc

pub connected_fit : (k : Connective) (n m : Nullability) (ls rs ts : List (Option Bool)) → vals_of ts ≡ zip_rows (connected3 k) (vals_of ls) (vals_of rs) → truths_fit n ls ≡ true → truths_fit m rs ≡ true → truths_fit (union n m) ts ≡ true
connected_fit k n m ls rs [] e p q = refl
connected_fit k n m [] rs (t ∷ ts) e p q = absurd cc
connected_fit k n m (l ∷ ls) [] (t ∷ ts) e p q = absurd cc
connected_fit k n m (l ∷ ls) (r ∷ rs) (t ∷ ts) e p q =
    let left = both_of (truth_fits n l) (truths_fit n ls) p in
    let right = both_of (truth_fits m r) (truths_fit m rs) q in
    let here : truth_val t ≡ connected3 k (truth_val l) (truth_val r) = cc in
    let rest : vals_of ts ≡ zip_rows (connected3 k) (vals_of ls) (vals_of rs) = cc in
    of_both _ _ (connected_truth_fits k n m l r t here left.0 right.0) (connected_fit k n m ls rs ts rest left.1 right.1)

-- where a negation has no truth, what is negated has none
not_truth_fits : (n : Nullability) (l t : Option Bool) → truth_val t ≡ not3 (truth_val l) → truth_fits n l ≡ true → truth_fits n t ≡ true
not_truth_fits n l (Some b) e p = refl
not_truth_fits n None None e p = p
not_truth_fits n (Some true) None e p = absurd cc
not_truth_fits n (Some false) None e p = absurd cc

pub not_fit : (n : Nullability) (ls ts : List (Option Bool)) → vals_of ts ≡ map not3 (vals_of ls) → truths_fit n ls ≡ true → truths_fit n ts ≡ true
not_fit n ls [] e p = refl
not_fit n [] (t ∷ ts) e p = absurd cc
not_fit n (l ∷ ls) (t ∷ ts) e p =
    let both = both_of (truth_fits n l) (truths_fit n ls) p in
    let here : truth_val t ≡ not3 (truth_val l) = cc in
    let rest : vals_of ts ≡ map not3 (vals_of ls) = cc in
    of_both _ _ (not_truth_fits n l t here both.0) (not_fit n ls ts rest both.1)

-- what a loop over two columns has made of them with one row more
pub zip_truths_step : (rule : Val → Val → Val) (l r : Column) (ts us : List (Option Bool)) (i : ℕ) (t : Option Bool) → i < length l.rows → length l.rows ≡ length r.rows → us ≡ ts ++ t ∷ [] → truth_val t ≡ rule (row_at l i) (row_at r i) → vals_of ts ≡ zip_rows rule (take i l.rows) (take i r.rows) → vals_of us ≡ zip_rows rule (take (i + 1) l.rows) (take (i + 1) r.rows)
zip_truths_step rule l r ts us i t h k e v before =
    let more : zip_rows rule (take (i + 1) l.rows) (take (i + 1) r.rows) ≡ zip_rows rule (take i l.rows) (take i r.rows) ++ rule (row_at l i) (row_at r i) ∷ [] = rw add-one (zip_rows_suc rule l.rows r.rows i null_val h (omega (arith, k))) in
    rw (e, vals_append ts t, before, v) (sym more)

-- what a rule makes of two constants
pub zip_constant_truth : (rule : Val → Val → Val) (l r : Column) (n : ℕ) (t : Option Bool) (v w : Val) → n ≡ length l.rows → length l.rows ≡ length r.rows → l.rows ≡ replicate (length l.rows) v → r.rows ≡ replicate (length r.rows) w → truth_val t ≡ rule v w → replicate n (truth_val t) ≡ zip_rows rule l.rows r.rows
zip_constant_truth rule l r n t v w e k p q h =
    let lefts : l.rows ≡ replicate n v = p ∙ ap (λ m. replicate m v) (sym e) in
    let rights : r.rows ≡ replicate n w = q ∙ ap (λ m. replicate m w) (sym (e ∙ k)) in
    ap (replicate n) h ∙ sym (zip_rows_repeated rule n v w) ∙ (λ j. zip_rows rule (sym lefts j) (sym rights j))
