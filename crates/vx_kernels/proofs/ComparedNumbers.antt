-- Comparisons of lists of numbers beside those of the rows that they stand for.
use Rattle.std.proofs.Common.{◌≡◌, refl, ap, ◌∙◌, sym, ℕ, Bool, true, Option, Some, None, List, [], ◌∷◌, map, length}
use Rattle.std.specs.Prelude.{ℤ}
use Rattle.std.specs.declared.cmp.Ordering.{Ordering}
use Rattle.std.specs.declared.cmp.Ordering.TheVariants.{Less, Equal, Greater}
use Rattle.std.specs.Ordering.{int_cmp, ordering_reverse}
use Rattle.std.specs.Simd.Lanes.{zip2}
use Rattle.std.proofs.Math.ListN.{replicate}
use Rattle.std.proofs.lemmas.Cmp.{int_cmp_total}
use Rattle.vx_dtype.specs.Types.{Ty, int_ty}
use Rattle.vx_dtype.specs.declared.Nullability.{Nullability}
use Rattle.vx_dtype.specs.declared.PType.{PType}
use Rattle.vx_dtype.specs.TypeRules.{alike, nullability_of, union}
use Rattle.vx_dtype.specs.declared.CompareOperator.{CompareOperator}
use Rattle.vx_dtype.specs.declared.CompareOperator.TheVariants.{Eq, NotEq, Gt, Gte, Lt, Lte}
use Rattle.vx_dtype.specs.Order.{meets, swapped_comparison, compare3}
use Rattle.vx_dtype.specs.Values.{Val}
use Rattle.vx_words.specs.Words.{truth_val}
use Rattle.vx_words.specs.Truths.{vals_of}
use Rattle.vx_numbers.specs.Numbers.{NumberList, compared}
use Rattle.vx_column.specs.RawParts.{truth_fits}
use Rattle.vx_column.specs.Columns.{zip_rows}
use Rattle.vx_column.specs.ColumnParts.{numbers_fit, truths_fit, AreNumbersOf}
use Rattle.vx_column.specs.PlainValues.{number_fits, number_val, numbers_vals}
use Rattle.vx_column.proofs.FitLemmas.{both_of, of_both, nullable_left, nullable_right}
use Rattle.vx_column.proofs.NumberLemmas.{same_int_ty}
use Rattle.vx_kernels.proofs.SumLemmas.{same_int}

-- the comparison of two numbers stands for that of their values
compared_row : (op : CompareOperator) (p q : PType) (a b : Option ℤ) → truth_val (compared op a b) ≡ compare3 op (number_val p a) (number_val q b)
compared_row op p q None None = refl
compared_row op p q None (Some b) = refl
compared_row op p q (Some a) None = refl
compared_row op p q (Some a) (Some b) = refl

compared_rows : (op : CompareOperator) (p q : PType) (ls rs : List (Option ℤ)) → vals_of (zip2 (compared op) ls rs) ≡ zip_rows (compare3 op) (map (number_val p) ls) (map (number_val q) rs)
compared_rows op p q [] rs = refl
compared_rows op p q (l ∷ ls) [] = refl
compared_rows op p q (l ∷ ls) (r ∷ rs) = λ j. compared_row op p q l r j ∷ compared_rows op p q ls rs j

-- where a comparison has no truth, one side is null
compared_fits : (op : CompareOperator) (p q : PType) (n m : Nullability) (a b : Option ℤ) → number_fits p n a ≡ true → number_fits q m b ≡ true → truth_fits (union n m) (compared op a b) ≡ true
compared_fits op p q n m None None e h = nullable_left n m e
compared_fits op p q n m None (Some b) e h = nullable_left n m e
compared_fits op p q n m (Some a) None e h = nullable_right n m h
compared_fits op p q n m (Some a) (Some b) e h = refl

all_compared_fit : (op : CompareOperator) (p q : PType) (n m : Nullability) (ls rs : List (Option ℤ)) → numbers_fit p n ls ≡ true → numbers_fit q m rs ≡ true → truths_fit (union n m) (zip2 (compared op) ls rs) ≡ true
all_compared_fit op p q n m [] rs e h = refl
all_compared_fit op p q n m (l ∷ ls) [] e h = refl
all_compared_fit op p q n m (l ∷ ls) (r ∷ rs) e h =
    let left = both_of (number_fits p n l) (numbers_fit p n ls) e in
    let right = both_of (number_fits q m r) (numbers_fit q m rs) h in
    of_both _ _ (compared_fits op p q n m l r left.0 right.0) (all_compared_fit op p q n m ls rs left.1 right.1)

pub compared_truths_fit : (op : CompareOperator) (t u : Ty) (ls rs : NumberList) (d : Nullability) (ts : List (Option Bool)) → d ≡ union (nullability_of t) (nullability_of u) → AreNumbersOf t ls → AreNumbersOf u rs → ts ≡ zip2 (compared op) ls.numbers rs.numbers → truths_fit d ts ≡ true
compared_truths_fit op t u ls rs d ts e h k made =
    (λ j. truths_fit (e j) (made j)) ∙ all_compared_fit op ls.ptype rs.ptype (nullability_of t) (nullability_of u) ls.numbers rs.numbers h.fit k.fit

pub compared_lists : (op : CompareOperator) (ls rs : NumberList) (ts : List (Option Bool)) (lv rv : List Val) → numbers_vals ls ≡ lv → numbers_vals rs ≡ rv → ts ≡ zip2 (compared op) ls.numbers rs.numbers → vals_of ts ≡ zip_rows (compare3 op) lv rv
compared_lists op ls rs ts lv rv e h made = ap vals_of made ∙ compared_rows op ls.ptype rs.ptype ls.numbers rs.numbers ∙ (λ j. zip_rows (compare3 op) (e j) (h j))

-- numbers beside one number
with_rows : (op : CompareOperator) (p q : PType) (ls : List (Option ℤ)) (b : Option ℤ) → vals_of (map (λ n. compared op n b) ls) ≡ zip_rows (compare3 op) (map (number_val p) ls) (replicate (length ls) (number_val q b))
with_rows op p q [] b = refl
with_rows op p q (l ∷ ls) b = λ j. compared_row op p q l b j ∷ with_rows op p q ls b j

with_fit : (op : CompareOperator) (p q : PType) (n m : Nullability) (ls : List (Option ℤ)) (b : Option ℤ) → numbers_fit p n ls ≡ true → number_fits q m b ≡ true → truths_fit (union n m) (map (λ l. compared op l b) ls) ≡ true
with_fit op p q n m [] b e h = refl
with_fit op p q n m (l ∷ ls) b e h =
    let left = both_of (number_fits p n l) (numbers_fit p n ls) e in
    of_both _ _ (compared_fits op p q n m l b left.0 h) (with_fit op p q n m ls b left.1 h)

pub with_truths_fit : (op : CompareOperator) (t u : Ty) (q : PType) (ls : NumberList) (b : Option ℤ) (d : Nullability) (ts : List (Option Bool)) → d ≡ union (nullability_of t) (nullability_of u) → AreNumbersOf t ls → number_fits q (nullability_of u) b ≡ true → ts ≡ map (λ l. compared op l b) ls.numbers → truths_fit d ts ≡ true
with_truths_fit op t u q ls b d ts e h k made =
    (λ j. truths_fit (e j) (made j)) ∙ with_fit op ls.ptype q (nullability_of t) (nullability_of u) ls.numbers b h.fit k

-- the comparison in the other order
reversed_meets : (op : CompareOperator) (o : Ordering) → meets (swapped_comparison op) o ≡ meets op (ordering_reverse o)
reversed_meets Eq Less = refl
reversed_meets Eq Equal = refl
reversed_meets Eq Greater = refl
reversed_meets NotEq Less = refl
reversed_meets NotEq Equal = refl
reversed_meets NotEq Greater = refl
reversed_meets Gt Less = refl
reversed_meets Gt Equal = refl
reversed_meets Gt Greater = refl
reversed_meets Gte Less = refl
reversed_meets Gte Equal = refl
reversed_meets Gte Greater = refl
reversed_meets Lt Less = refl
reversed_meets Lt Equal = refl
reversed_meets Lt Greater = refl
reversed_meets Lte Less = refl
reversed_meets Lte Equal = refl
reversed_meets Lte Greater = refl

swapped_compared : (op : CompareOperator) (a b : Option ℤ) → compared (swapped_comparison op) b a ≡ compared op a b
swapped_compared op None None = refl
swapped_compared op None (Some b) = refl
swapped_compared op (Some a) None = refl
swapped_compared op (Some a) (Some b) = ap Some (reversed_meets op (int_cmp b a) ∙ ap (meets op) (sym (int_cmp_total.antisymm a b)))

swapped_rows : (op : CompareOperator) (p q : PType) (a : Option ℤ) (rs : List (Option ℤ)) → vals_of (map (λ n. compared (swapped_comparison op) n a) rs) ≡ zip_rows (compare3 op) (replicate (length rs) (number_val p a)) (map (number_val q) rs)
swapped_rows op p q a [] = refl
swapped_rows op p q a (r ∷ rs) = λ j. (ap truth_val (swapped_compared op a r) ∙ compared_row op p q a r) j ∷ swapped_rows op p q a rs j

swapped_fits : (op : CompareOperator) (p q : PType) (n m : Nullability) (a r : Option ℤ) → number_fits p n a ≡ true → number_fits q m r ≡ true → truth_fits (union n m) (compared (swapped_comparison op) r a) ≡ true
swapped_fits op p q n m a r e h = ap (truth_fits (union n m)) (swapped_compared op a r) ∙ compared_fits op p q n m a r e h

swapped_fit : (op : CompareOperator) (p q : PType) (n m : Nullability) (a : Option ℤ) (rs : List (Option ℤ)) → number_fits p n a ≡ true → numbers_fit q m rs ≡ true → truths_fit (union n m) (map (λ r. compared (swapped_comparison op) r a) rs) ≡ true
swapped_fit op p q n m a [] e h = refl
swapped_fit op p q n m a (r ∷ rs) e h =
    let right = both_of (number_fits q m r) (numbers_fit q m rs) h in
    of_both _ _ (swapped_fits op p q n m a r e right.0) (swapped_fit op p q n m a rs e right.1)

pub swapped_truths_fit : (op : CompareOperator) (t u : Ty) (p : PType) (rs : NumberList) (a : Option ℤ) (d : Nullability) (ts : List (Option Bool)) → d ≡ union (nullability_of t) (nullability_of u) → number_fits p (nullability_of t) a ≡ true → AreNumbersOf u rs → ts ≡ map (λ r. compared (swapped_comparison op) r a) rs.numbers → truths_fit d ts ≡ true
swapped_truths_fit op t u p rs a d ts e h k made =
    (λ j. truths_fit (e j) (made j)) ∙ swapped_fit op p rs.ptype (nullability_of t) (nullability_of u) a rs.numbers h k.fit

-- and of a column beside one value
pub with_list : (op : CompareOperator) (q : PType) (ls : NumberList) (b : Option ℤ) (v : Val) (n : ℕ) (ts : List (Option Bool)) (lv rv : List Val) → numbers_vals ls ≡ lv → length ls.numbers ≡ n → number_val q b ≡ v → replicate n v ≡ rv → ts ≡ map (λ l. compared op l b) ls.numbers → vals_of ts ≡ zip_rows (compare3 op) lv rv
with_list op q ls b v n ts lv rv e k w r made =
    let right : replicate (length ls.numbers) (number_val q b) ≡ rv = (λ j. replicate (k j) (w j)) ∙ r in
    ap vals_of made ∙ with_rows op ls.ptype q ls.numbers b ∙ (λ j. zip_rows (compare3 op) (e j) (right j))

pub swapped_list : (op : CompareOperator) (p : PType) (rs : NumberList) (a : Option ℤ) (v : Val) (n : ℕ) (ts : List (Option Bool)) (lv rv : List Val) → numbers_vals rs ≡ rv → length rs.numbers ≡ n → number_val p a ≡ v → replicate n v ≡ lv → ts ≡ map (λ r. compared (swapped_comparison op) r a) rs.numbers → vals_of ts ≡ zip_rows (compare3 op) lv rv
swapped_list op p rs a v n ts lv rv e k w r made =
    let left : replicate (length rs.numbers) (number_val p a) ≡ lv = (λ j. replicate (k j) (w j)) ∙ r in
    ap vals_of made ∙ swapped_rows op p rs.ptype a rs.numbers ∙ (λ j. zip_rows (compare3 op) (left j) (e j))

-- two types that are equal but for nullability are of one integer type
pub one_ptype : (t u : Ty) (p q : PType) (n m : Nullability) → t ≡ int_ty p n → u ≡ int_ty q m → alike t u ≡ true → q ≡ p
one_ptype t u p q n m e h a = same_int_ty q p m (nullability_of u) (sym h ∙ same_int t u p n e a)
