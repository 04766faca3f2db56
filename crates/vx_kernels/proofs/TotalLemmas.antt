-- Sums and differences of lists of numbers beside those of the rows that they stand for.
use Rattle.std.proofs.Common.{◌≡◌, refl, ap, ◌∙◌, sym, Bool, true, false, ◌&&◌, cond, Option, Some, None, List, [], ◌∷◌, map, Ok}
use Rattle.std.specs.Prelude.{ℤ, ◌+ℤ◌, ◌-ℤ◌, option_map}
use Rattle.std.specs.Simd.Lanes.{zip2}
use Rattle.vx_dtype.specs.Types.{Ty, int_ty}
use Rattle.vx_dtype.specs.declared.Nullability.{Nullability}
use Rattle.vx_dtype.specs.declared.PType.{PType}
use Rattle.vx_dtype.specs.TypeRules.{nullability_of, union, with_nullability}
use Rattle.vx_dtype.specs.Values.{Val, int_val, fault}
use Rattle.vx_dtype.specs.Fits.{in_range}
use Rattle.vx_dtype.specs.Sums.{int_in}
use Rattle.vx_numbers.specs.Numbers.{NumberList, number_list, fits_ptype, all_in_range, if_in_range, on_both}
use Rattle.vx_kernels.specs.declared.sums.Total.{Total}
use Rattle.vx_kernels.specs.declared.sums.Total.TheVariants.{Sum, Difference}
use Rattle.vx_column.specs.declared.errors.ColumnError.{ColumnError}
use Rattle.vx_column.specs.Answers.{no_faults, unless_faulty}
use Rattle.vx_column.specs.Columns.{Column, column, zip_rows}
use Rattle.vx_column.specs.ColumnParts.{numbers_fit, AreNumbersOf}
use Rattle.vx_column.specs.PlainValues.{number_fits, number_val, numbers_vals}
use Rattle.vx_kernels.specs.Totals.{total3, totals}
use Rattle.vx_column.proofs.FitLemmas.{both_of, of_both, nullable_left, nullable_right}
use Rattle.vx_column.proofs.NumberLemmas.{numbers_are, number_rows_fit}
use Rattle.vx_kernels.proofs.SumLemmas.{no_faults_fit, fault_first, fault_behind}

-- the total of two numbers
abbrev total_of : Total → Option ℤ → Option ℤ → Option ℤ
total_of Sum = on_both (λ a b. a +ℤ b)
total_of Difference = on_both (λ a b. a -ℤ b)

totals_are : (k : Total) (ls rs : List (Option ℤ)) → totals k ls rs ≡ zip2 (total_of k) ls rs
totals_are Sum ls rs = refl
totals_are Difference ls rs = refl

-- a total in the range of the type stands for the total of the values, and one out of it is a fault
pub in_type : (p : PType) (i : ℤ) → in_range p i ≡ true → int_val p i ≡ int_in p i
in_type p i e = rw e refl

pub out_of_type : (p : PType) (i : ℤ) → in_range p i ≡ false → int_in p i ≡ fault
out_of_type p i e = rw e refl

total_row : (k : Total) (p : PType) (a b : Option ℤ) → fits_ptype p (total_of k a b) ≡ true → number_val p (total_of k a b) ≡ total3 k (number_val p a) (number_val p b)
total_row Sum p None None e = refl
total_row Sum p None (Some b) e = refl
total_row Sum p (Some a) None e = refl
total_row Sum p (Some a) (Some b) e = in_type p (a +ℤ b) e
total_row Difference p None None e = refl
total_row Difference p None (Some b) e = refl
total_row Difference p (Some a) None e = refl
total_row Difference p (Some a) (Some b) e = in_type p (a -ℤ b) e

total_fault : (k : Total) (p : PType) (a b : Option ℤ) → fits_ptype p (total_of k a b) ≡ false → total3 k (number_val p a) (number_val p b) ≡ fault
total_fault Sum p None None e = absurd cc
total_fault Sum p None (Some b) e = absurd cc
total_fault Sum p (Some a) None e = absurd cc
total_fault Sum p (Some a) (Some b) e = out_of_type p (a +ℤ b) e
total_fault Difference p None None e = absurd cc
total_fault Difference p None (Some b) e = absurd cc
total_fault Difference p (Some a) None e = absurd cc
total_fault Difference p (Some a) (Some b) e = out_of_type p (a -ℤ b) e

total_rows : (k : Total) (p : PType) (ls rs : List (Option ℤ)) → all_in_range p (zip2 (total_of k) ls rs) ≡ true → map (number_val p) (zip2 (total_of k) ls rs) ≡ zip_rows (total3 k) (map (number_val p) ls) (map (number_val p) rs)
total_rows k p [] rs e = refl
total_rows k p (l ∷ ls) [] e = refl
total_rows k p (l ∷ ls) (r ∷ rs) e =
    let both = both_of (fits_ptype p (total_of k l r)) (all_in_range p (zip2 (total_of k) ls rs)) e in
    λ j. total_row k p l r both.0 j ∷ total_rows k p ls rs both.1 j

-- where a total leaves the type, a row is a fault
total_faults_from : (k : Total) (p : PType) (l r : Option ℤ) (ls rs : List (Option ℤ)) (b : Bool) → b ≡ fits_ptype p (total_of k l r) → (b && all_in_range p (zip2 (total_of k) ls rs)) ≡ false
    → (all_in_range p (zip2 (total_of k) ls rs) ≡ false → no_faults (zip_rows (total3 k) (map (number_val p) ls) (map (number_val p) rs)) ≡ false)
    → no_faults (total3 k (number_val p l) (number_val p r) ∷ zip_rows (total3 k) (map (number_val p) ls) (map (number_val p) rs)) ≡ false
total_faults_from k p l r ls rs true h e behind =
    fault_behind (total3 k (number_val p l) (number_val p r)) (zip_rows (total3 k) (map (number_val p) ls) (map (number_val p) rs)) (behind e)
total_faults_from k p l r ls rs false h e behind = fault_first _ _ (total_fault k p l r (sym h))

total_faults : (k : Total) (p : PType) (ls rs : List (Option ℤ)) → all_in_range p (zip2 (total_of k) ls rs) ≡ false → no_faults (zip_rows (total3 k) (map (number_val p) ls) (map (number_val p) rs)) ≡ false
total_faults k p [] rs e = absurd cc
total_faults k p (l ∷ ls) [] e = absurd cc
total_faults k p (l ∷ ls) (r ∷ rs) e =
    total_faults_from k p l r ls rs (fits_ptype p (total_of k l r)) refl e (total_faults k p ls rs)

-- a total is null only where a side is
total_fits : (k : Total) (p : PType) (n m : Nullability) (a b : Option ℤ) → number_fits p n a ≡ true → number_fits p m b ≡ true → fits_ptype p (total_of k a b) ≡ true → number_fits p (union n m) (total_of k a b) ≡ true
total_fits Sum p n m None None e h r = nullable_left n m e
total_fits Sum p n m None (Some b) e h r = nullable_left n m e
total_fits Sum p n m (Some a) None e h r = nullable_right n m h
total_fits Sum p n m (Some a) (Some b) e h r = r
total_fits Difference p n m None None e h r = nullable_left n m e
total_fits Difference p n m None (Some b) e h r = nullable_left n m e
total_fits Difference p n m (Some a) None e h r = nullable_right n m h
total_fits Difference p n m (Some a) (Some b) e h r = r

all_totals_fit : (k : Total) (p : PType) (n m : Nullability) (ls rs : List (Option ℤ)) → numbers_fit p n ls ≡ true → numbers_fit p m rs ≡ true → all_in_range p (zip2 (total_of k) ls rs) ≡ true → numbers_fit p (union n m) (zip2 (total_of k) ls rs) ≡ true
all_totals_fit k p n m [] rs e h r = refl
all_totals_fit k p n m (a ∷ ls) [] e h r = refl
all_totals_fit k p n m (a ∷ ls) (b ∷ rs) e h r =
    let left = both_of (number_fits p n a) (numbers_fit p n ls) e in
    let right = both_of (number_fits p m b) (numbers_fit p m rs) h in
    let range = both_of (fits_ptype p (total_of k a b)) (all_in_range p (zip2 (total_of k) ls rs)) r in
    of_both _ _ (total_fits k p n m a b left.0 right.0 range.0) (all_totals_fit k p n m ls rs left.1 right.1 range.1)

-- what the answer of totals says
pub made_totals : (p : PType) (b : Bool) (ts : List (Option ℤ)) (ms : NumberList) → Some ms ≡ option_map (number_list p) (cond b (Some ts) None) → (b ≡ true) × (ms ≡ number_list p ts)
made_totals p true ts ms e = (refl, let same : ms ≡ number_list p ts = cc in same)
made_totals p false ts ms e = absurd cc

pub no_totals : (p : PType) (b : Bool) (ts : List (Option ℤ)) → ◌≡◌ {A = Option NumberList} None (option_map (number_list p) (cond b (Some ts) None)) → b ≡ false
no_totals p true ts e = absurd cc
no_totals p false ts e = refl

-- the two columns, their numbers, and the total of them
module _ (k : Total) (t u : Ty) (ls rs : NumberList) (lv rv : List Val) (left : AreNumbersOf t ls) (right : AreNumbersOf u rs) (one : rs.ptype ≡ ls.ptype)
    (l : numbers_vals ls ≡ lv) (r : numbers_vals rs ≡ rv) where
  right_rows : map (number_val ls.ptype) rs.numbers ≡ rv
  right_rows = ap (λ p. map (number_val p) rs.numbers) (sym one) ∙ r

  right_fit : numbers_fit ls.ptype (nullability_of u) rs.numbers ≡ true
  right_fit = ap (λ p. numbers_fit p (nullability_of u) rs.numbers) (sym one) ∙ right.fit

  pub overflows : ◌≡◌ {A = Option NumberList} None (option_map (number_list ls.ptype) (if_in_range ls.ptype (totals k ls.numbers rs.numbers))) → no_faults (zip_rows (total3 k) lv rv) ≡ false
  overflows e =
      let leaves : all_in_range ls.ptype (zip2 (total_of k) ls.numbers rs.numbers) ≡ false = ap (all_in_range ls.ptype) (sym (totals_are k ls.numbers rs.numbers)) ∙ no_totals ls.ptype (all_in_range ls.ptype (totals k ls.numbers rs.numbers)) (totals k ls.numbers rs.numbers) e in
      (λ j. no_faults (zip_rows (total3 k) (sym l j) (sym right_rows j))) ∙ total_faults k ls.ptype ls.numbers rs.numbers leaves

  module _ (ms : NumberList) (made : Some ms ≡ option_map (number_list ls.ptype) (if_in_range ls.ptype (totals k ls.numbers rs.numbers))) where
    told : (all_in_range ls.ptype (totals k ls.numbers rs.numbers) ≡ true) × (ms ≡ number_list ls.ptype (totals k ls.numbers rs.numbers))
    told = made_totals ls.ptype (all_in_range ls.ptype (totals k ls.numbers rs.numbers)) (totals k ls.numbers rs.numbers) ms made

    range : all_in_range ls.ptype (zip2 (total_of k) ls.numbers rs.numbers) ≡ true
    range = ap (all_in_range ls.ptype) (sym (totals_are k ls.numbers rs.numbers)) ∙ told.0

    same : ms ≡ number_list ls.ptype (zip2 (total_of k) ls.numbers rs.numbers)
    same = told.1 ∙ ap (number_list ls.ptype) (totals_are k ls.numbers rs.numbers)

    pub total_type : ms.ptype ≡ ls.ptype
    total_type = ap (λ (n : NumberList). n.ptype) same

    pub totals_are_numbers : (d : Ty) → d ≡ int_ty ms.ptype (union (nullability_of t) (nullability_of u)) → AreNumbersOf d ms
    totals_are_numbers d e =
        numbers_are d ls.ptype (union (nullability_of t) (nullability_of u)) (zip2 (total_of k) ls.numbers rs.numbers) ms (e ∙ ap (λ p. int_ty p (union (nullability_of t) (nullability_of u))) total_type) same
        (all_totals_fit k ls.ptype (nullability_of t) (nullability_of u) ls.numbers rs.numbers left.fit right_fit range)

    pub totals_rows : numbers_vals ms ≡ zip_rows (total3 k) lv rv
    totals_rows = ap numbers_vals same ∙ total_rows k ls.ptype ls.numbers rs.numbers range ∙ (λ j. zip_rows (total3 k) (l j) (right_rows j))

    -- the answer: the rows that were made are of their type, so none is a fault
    pub totals_answer : (e : ColumnError) (d : Ty) (c : Column) → d ≡ int_ty ms.ptype (union (nullability_of t) (nullability_of u)) → c ≡ column d (numbers_vals ms)
        → Ok c ≡ unless_faulty e (column (with_nullability t (union (nullability_of t) (nullability_of u))) (zip_rows (total3 k) lv rv))
    totals_answer e d c h made_of =
        let wide : d ≡ with_nullability t (union (nullability_of t) (nullability_of u)) =
        h ∙ ap (λ p. int_ty p (union (nullability_of t) (nullability_of u))) total_type ∙ ap (λ v. with_nullability v (union (nullability_of t) (nullability_of u))) (sym left.kind) in
        let none : no_faults (zip_rows (total3 k) lv rv) ≡ true = ap no_faults (sym totals_rows) ∙ no_faults_fit d (numbers_vals ms) (number_rows_fit d ms (totals_are_numbers d h)) in
        let there : c ≡ column (with_nullability t (union (nullability_of t) (nullability_of u))) (zip_rows (total3 k) lv rv) = made_of ∙ (λ j. column (wide j) (totals_rows j)) in
        rw none (ap (λ x. Ok x) there)
