-- Casts of lists of numbers beside those of the rows that they stand for.
use Rattle.std.proofs.Common.{◌≡◌, refl, ap, ◌∙◌, sym, ℕ, ◌+◌, Bool, true, false, ◌&&◌, cond, Option, Some, None, List, [], ◌∷◌, map, length, arith, Ok}
use Rattle.std.specs.Prelude.{ℤ, count_by, option_map, nat_lt}
use Rattle.std.proofs.Math.ListN.{replicate}
use Rattle.std.proofs.lemmas.Bool.Decides.{nat_tests}
use Rattle.std.proofs.lemmas.List.Sums.{sum_by-cons}
use Rattle.vx_dtype.specs.Types.{Ty, bool_ty, int_ty, text_ty}
use Rattle.vx_dtype.specs.declared.Nullability.{Nullability}
use Rattle.vx_dtype.specs.declared.Nullability.TheVariants.{NonNullable, Nullable}
use Rattle.vx_dtype.specs.declared.PType.{PType}
use Rattle.vx_dtype.specs.TypeRules.{alike, is_nullable, same_ptype, nullability_of, with_nullability}
use Rattle.vx_dtype.specs.Values.{Val, null_val, bool_val, int_val, text_val, fault}
use Rattle.vx_dtype.specs.Fits.{fits, in_range, val_fits}
use Rattle.vx_dtype.specs.RawViews.{raw_view}
use Rattle.vx_dtype.specs.declared.values.ScalarValue.{ScalarValue}
use Rattle.vx_dtype.specs.Casts.{takes_cast, cast3}
use Rattle.vx_words.specs.Truths.{is_true}
use Rattle.vx_numbers.specs.Numbers.{NumberList, number_list, fits_ptype, all_in_range, if_in_range, null_test}
use Rattle.vx_column.specs.declared.errors.ColumnError.{ColumnError}
use Rattle.vx_column.specs.Answers.{no_faults, unless_faulty}
use Rattle.vx_column.specs.Columns.{Column, column, rows_fit, seen}
use Rattle.vx_column.specs.ColumnParts.{numbers_fit, AreNumbersOf}
use Rattle.vx_column.specs.PlainValues.{number_fits, number_val, numbers_vals}
use Rattle.vx_kernels.specs.Totals.{has_null, stray_null}
use Rattle.vx_column.proofs.FitLemmas.{both_of, of_both}
use Rattle.vx_column.proofs.RowLemmas.{map_repeated, rows_fit_repeated}
use Rattle.vx_column.proofs.NumberLemmas.{numbers_are, number_rows_fit}
use Rattle.vx_kernels.proofs.SumLemmas.{no_faults_fit, fault_first, fault_behind, same_ptype_equal}
use Rattle.vx_kernels.proofs.TotalLemmas.{made_totals, no_totals, in_type, out_of_type}

-- a number that the target has is cast to itself, another one is a fault
cast_row : (p q : PType) (m : Nullability) (i : Option ℤ) → number_fits q m i ≡ true → cast3 (int_ty q m) (number_val p i) ≡ number_val q i
cast_row p q NonNullable None e = absurd cc
cast_row p q Nullable None e = refl
cast_row p q m (Some i) e = sym (in_type q i e)

cast_rows : (p q : PType) (m : Nullability) (ns : List (Option ℤ)) → numbers_fit q m ns ≡ true → map (cast3 (int_ty q m)) (map (number_val p) ns) ≡ map (number_val q) ns
cast_rows p q m [] e = refl
cast_rows p q m (i ∷ is) e =
    let both = both_of (number_fits q m i) (numbers_fit q m is) e in
    λ j. cast_row p q m i both.0 j ∷ cast_rows p q m is both.1 j

cast_out : (p q : PType) (m : Nullability) (i : Option ℤ) → fits_ptype q i ≡ false → cast3 (int_ty q m) (number_val p i) ≡ fault
cast_out p q m None e = absurd cc
cast_out p q m (Some i) e = out_of_type q i e

cast_fault_from : (p q : PType) (m : Nullability) (i : Option ℤ) (is : List (Option ℤ)) (b : Bool) → b ≡ fits_ptype q i → (b && all_in_range q is) ≡ false
    → (all_in_range q is ≡ false → no_faults (map (cast3 (int_ty q m)) (map (number_val p) is)) ≡ false)
    → no_faults (cast3 (int_ty q m) (number_val p i) ∷ map (cast3 (int_ty q m)) (map (number_val p) is)) ≡ false
cast_fault_from p q m i is true h e behind = fault_behind (cast3 (int_ty q m) (number_val p i)) (map (cast3 (int_ty q m)) (map (number_val p) is)) (behind e)
cast_fault_from p q m i is false h e behind = fault_first (cast3 (int_ty q m) (number_val p i)) (map (cast3 (int_ty q m)) (map (number_val p) is)) (cast_out p q m i (sym h))

cast_faults : (p q : PType) (m : Nullability) (ns : List (Option ℤ)) → all_in_range q ns ≡ false → no_faults (map (cast3 (int_ty q m)) (map (number_val p) ns)) ≡ false
cast_faults p q m [] e = absurd cc
cast_faults p q m (i ∷ is) e = cast_fault_from p q m i is (fits_ptype q i) refl e (cast_faults p q m is)

-- a null that the target doesn't have is a fault
null_faults : (p q : PType) (ns : List (Option ℤ)) → has_null ns ≡ true → no_faults (map (cast3 (int_ty q NonNullable)) (map (number_val p) ns)) ≡ false
null_faults p q [] e = absurd cc
null_faults p q (None ∷ is) e = refl
null_faults p q (Some i ∷ is) e = fault_behind (cast3 (int_ty q NonNullable) (int_val p i)) (map (cast3 (int_ty q NonNullable)) (map (number_val p) is)) (null_faults p q is e)

pub stray_faults : (q : PType) (m : Nullability) (ns : NumberList) → stray_null m ns.numbers ≡ true → no_faults (map (cast3 (int_ty q m)) (numbers_vals ns)) ≡ false
stray_faults q NonNullable ns e = null_faults ns.ptype q ns.numbers e
stray_faults q Nullable ns e = absurd cc

-- numbers in the range, of which none is a stray null, are those of the type
without_null : (q : PType) (ns : List (Option ℤ)) → has_null ns ≡ false → all_in_range q ns ≡ true → numbers_fit q NonNullable ns ≡ true
without_null q [] e h = refl
without_null q (None ∷ is) e h = absurd cc
without_null q (Some i ∷ is) e h =
    let both = both_of (in_range q i) (all_in_range q is) h in
    of_both _ _ both.0 (without_null q is e both.1)

with_null : (q : PType) (ns : List (Option ℤ)) → all_in_range q ns ≡ true → numbers_fit q Nullable ns ≡ true
with_null q [] h = refl
with_null q (None ∷ is) h = with_null q is h
with_null q (Some i ∷ is) h =
    let both = both_of (in_range q i) (all_in_range q is) h in
    of_both _ _ both.0 (with_null q is both.1)

no_stray_fit : (q : PType) (m : Nullability) (ns : List (Option ℤ)) → stray_null m ns ≡ false → all_in_range q ns ≡ true → numbers_fit q m ns ≡ true
no_stray_fit q NonNullable ns e h = without_null q ns e h
no_stray_fit q Nullable ns e h = with_null q ns h

-- how the code looks for a null
above_zero : (k : ℕ) → nat_lt 0 (1 + k) ≡ true
above_zero k = grind (arith, nat_tests)

null_count : (ns : List (Option ℤ)) → nat_lt 0 (count_by is_true (map null_test ns)) ≡ has_null ns
null_count [] = refl
null_count (None ∷ is) =
    let more : count_by is_true (map null_test (None ∷ is)) ≡ 1 + count_by is_true (map null_test is) = sum_by-cons (λ u. cond (is_true u) 1 0) (Some true) (map null_test is) in
    ap (nat_lt 0) more ∙ above_zero (count_by is_true (map null_test is))
null_count (Some i ∷ is) =
    let same : count_by is_true (map null_test (Some i ∷ is)) ≡ count_by is_true (map null_test is) = sum_by-cons (λ u. cond (is_true u) 1 0) (Some false) (map null_test is) ∙ omega arith in
    ap (nat_lt 0) same ∙ null_count is

pub stray_found : (ns : List (Option ℤ)) (ts : List (Option Bool)) (n : ℕ) → ts ≡ map null_test ns → n ≡ count_by is_true ts → nat_lt 0 n ≡ has_null ns
stray_found ns ts n e h = ap (nat_lt 0) (h ∙ ap (count_by is_true) e) ∙ null_count ns

-- the answer of a cast of numbers
module _ (q : PType) (m : Nullability) (ns : NumberList) (fine : stray_null m ns.numbers ≡ false) where
  pub leaves_target : ◌≡◌ {A = Option NumberList} None (option_map (number_list q) (if_in_range q ns.numbers)) → no_faults (map (cast3 (int_ty q m)) (numbers_vals ns)) ≡ false
  leaves_target e = cast_faults ns.ptype q m ns.numbers (no_totals q (all_in_range q ns.numbers) ns.numbers e)

  module _ (ms : NumberList) (made : Some ms ≡ option_map (number_list q) (if_in_range q ns.numbers)) where
    told : (all_in_range q ns.numbers ≡ true) × (ms ≡ number_list q ns.numbers)
    told = made_totals q (all_in_range q ns.numbers) ns.numbers ms made

    pub cast_are_numbers : AreNumbersOf (int_ty q m) ms
    cast_are_numbers = numbers_are (int_ty q m) q m ns.numbers ms refl told.1 (no_stray_fit q m ns.numbers fine told.0)

    pub cast_answer : (e : ColumnError) (c : Column) → c ≡ column (int_ty ms.ptype m) (numbers_vals ms) → Ok c ≡ unless_faulty e (column (int_ty q m) (map (cast3 (int_ty q m)) (numbers_vals ns)))
    cast_answer e c h =
        let type : ms.ptype ≡ q = ap (λ (n : NumberList). n.ptype) told.1 in
        let rows : numbers_vals ms ≡ map (cast3 (int_ty q m)) (numbers_vals ns) = ap numbers_vals told.1 ∙ sym (cast_rows ns.ptype q m ns.numbers (no_stray_fit q m ns.numbers fine told.0)) in
        let none : no_faults (map (cast3 (int_ty q m)) (numbers_vals ns)) ≡ true = ap no_faults (sym rows) ∙ no_faults_fit (int_ty q m) (numbers_vals ms) (number_rows_fit (int_ty q m) ms cast_are_numbers) in
        rw none (ap (λ d. Ok d) (h ∙ (λ j. column (int_ty (type j) m) (rows j))))

-- a cast that only makes a type nullable changes no value
widened_row : (s t : Ty) (v : Val) → takes_cast s t ≡ true → is_nullable (nullability_of t) ≡ true → alike s t ≡ true → val_fits v s ≡ true → cast3 t v ≡ v
unfolding alike val_fits
widened_row (bool_ty n) (bool_ty Nullable) null_val a e k h = refl
widened_row (bool_ty n) (bool_ty Nullable) (bool_val b) a e k h = refl
widened_row (int_ty p n) (int_ty q Nullable) null_val a e k h = refl
widened_row (int_ty p n) (int_ty q Nullable) (int_val r i) a e k h =
    let both = both_of (same_ptype r p) (in_range p i) h in
    let own : p ≡ q = same_ptype_equal p q k in
    let here : r ≡ q = same_ptype_equal r p both.0 ∙ own in
    sym (in_type q i (ap (λ x. in_range x i) (sym own) ∙ both.1)) ∙ ap (λ x. int_val x i) (sym here)
widened_row (text_ty n) (text_ty Nullable) null_val a e k h = refl
widened_row (text_ty n) (text_ty Nullable) (text_val x) a e k h = refl
widened_row _ _ _ a e k h = absurd cc

widened_rows : (s t : Ty) (vs : List Val) → takes_cast s t ≡ true → is_nullable (nullability_of t) ≡ true → alike s t ≡ true → rows_fit s vs ≡ true → map (cast3 t) vs ≡ vs
widened_rows s t [] a e k h = refl
widened_rows s t (v ∷ vs) a e k h =
    let both = both_of (val_fits v s) (rows_fit s vs) h in
    λ j. widened_row s t v a e k both.0 j ∷ widened_rows s t vs a e k both.1 j

widened_type : (s t : Ty) → takes_cast s t ≡ true → is_nullable (nullability_of t) ≡ true → alike s t ≡ true → with_nullability s Nullable ≡ t
unfolding alike
widened_type (bool_ty n) (bool_ty Nullable) a e k = refl
widened_type (int_ty p n) (int_ty q Nullable) a e k = ap (λ x. int_ty x Nullable) (same_ptype_equal p q k)
widened_type (text_ty n) (text_ty Nullable) a e k = refl
widened_type _ _ a e k = absurd cc

pub widened_answer : (r : ColumnError) (t : Ty) (c d : Column) → takes_cast c.ty t ≡ true → (is_nullable (nullability_of t) && alike c.ty t) ≡ true → rows_fit c.ty c.rows ≡ true → d ≡ column (with_nullability c.ty Nullable) c.rows
    → Ok d ≡ unless_faulty r (column t (map (cast3 t) c.rows))
widened_answer r t c d a w f e =
    let both = both_of (is_nullable (nullability_of t)) (alike c.ty t) w in
    let rows = widened_rows c.ty t c.rows a both.0 both.1 f in
    let none : no_faults (map (cast3 t) c.rows) ≡ true = ap no_faults rows ∙ no_faults_fit c.ty c.rows f in
    rw none (ap (λ x. Ok x) (e ∙ (λ j. column (widened_type c.ty t a both.0 both.1 j) (sym rows j))))

-- the cast of one value at all rows
pub constant_answer : (e : ColumnError) (t : Ty) (c d : Column) (x : ScalarValue) (v : Val) → fits (raw_view x) t ≡ true → seen t x ≡ cast3 t v → c.rows ≡ replicate (length c.rows) v → d ≡ column t (replicate (length c.rows) (seen t x))
    → Ok d ≡ unless_faulty e (column t (map (cast3 t) c.rows))
constant_answer e t c d x v f s r m =
    let rows : replicate (length c.rows) (seen t x) ≡ map (cast3 t) c.rows = ap (replicate (length c.rows)) s ∙ sym (map_repeated (cast3 t) (length c.rows) v) ∙ ap (map (cast3 t)) (sym r) in
    let none : no_faults (map (cast3 t) c.rows) ≡ true = ap no_faults (sym rows) ∙ no_faults_fit t (replicate (length c.rows) (seen t x)) (rows_fit_repeated t (length c.rows) x f) in
    rw none (ap (λ (y : Column). Ok y) (m ∙ ap (column t) rows))
