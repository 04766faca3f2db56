-- How many rows are kept where a boolean column is true: as many as it is true at.
use Rattle.std.proofs.Common.{◌≡◌, refl, ap, ◌∙◌, sym, ◌+◌, Bool, true, false, cond, List, [], ◌∷◌, length, arith}
use Rattle.std.proofs.lemmas.List.Sums.{sum_by-cons}
use Rattle.vx_dtype.specs.Values.{Val}
use Rattle.vx_dtype.specs.Logic.{is_true_val}
use Rattle.vx_column.specs.Columns.{kept_rows, true_count}

-- one more row
pub true_count-cons : (k : Val) (ks : List Val) → true_count (k ∷ ks) ≡ cond (is_true_val k) 1 0 + true_count ks
true_count-cons k ks = sum_by-cons (λ v. cond (is_true_val v) 1 0) k ks

length_step : (b : Bool) (v : Val) (vs : List Val) → length (cond b (v ∷ vs) vs) ≡ cond b 1 0 + length vs
length_step true v vs = omega arith
length_step false v vs = omega arith

-- of the rows of a column
pub length_kept : (vs ks : List Val) → length vs ≡ length ks → length (kept_rows vs ks) ≡ true_count ks
length_kept [] [] e = refl
length_kept [] (k ∷ ks) e = absurd (omega (arith, e))
length_kept (v ∷ vs) [] e = absurd (omega (arith, e))
length_kept (v ∷ vs) (k ∷ ks) e =
    let rest = length_kept vs ks (omega (arith, e)) in
    length_step (is_true_val k) v (kept_rows vs ks) ∙ ap (λ n. cond (is_true_val k) 1 0 + n) rest ∙ sym (true_count-cons k ks)

-- of its own rows
pub length_kept_self : (ks : List Val) → length (kept_rows ks ks) ≡ true_count ks
length_kept_self ks = length_kept ks ks refl
