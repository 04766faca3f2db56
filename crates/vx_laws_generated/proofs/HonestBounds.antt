-- The statistics are honest.
use Rattle.std.proofs.Common.{◌≡◌, ◌∙◌, ap, refl, ℕ, zero, suc, ◌+◌, ◌/◌, ◌≤◌, min, max, Bool, true, false, cond, ◌||◌, ltb, Less, Equal, Greater, pos, List, [], ◌∷◌, map, Option, Some, None}
use Rattle.std.specs.List.{range_with_len, list_all}
use Rattle.std.proofs.lemmas.Bool.{and_from, le-ltb}
use Rattle.std.specs.Ordering.{is_le, is_ge}
use Rattle.vx_dtype.specs.declared.CompareOperator.{CompareOperator}
use Rattle.vx_dtype.specs.declared.CompareOperator.TheVariants.{Lte, Gte}
use Rattle.vx_dtype.specs.declared.PType.{PType}
use Rattle.vx_dtype.specs.declared.Stat.{Stat}
use Rattle.vx_dtype.specs.declared.Stat.TheVariants.{Min, Max}
use Rattle.vx_dtype.specs.Types.{Bytes}
use Rattle.vx_dtype.specs.Values.{Val, bool_val, int_val, Typed, valued, value_of}
use Rattle.vx_dtype.specs.Logic.{is_null_val, is_true_val}
use Rattle.vx_dtype.specs.Order.{compares}
use Rattle.vx_semantics.specs.Paths.{path_value}
use Rattle.vx_semantics.specs.Honest.{bounds_all, honest_value, honest_values}
use Rattle.vx_laws_generated.specs.GeneratedTable.{GeneratedColumn, id_column, v_column, name_of, integer_of, number_at, number_val, value_at, numbers_in, rows_in, bound_of, bound_value, bound_in, bounds_of, generated_row, generated_block}
use Rattle.vx_laws_generated.specs.GeneratedLaws.{GeneratedZonesAreHonest}
use Rattle.vx_laws_generated.proofs.Chosen.{OnNumber, OnNumbers, least-is-choice, greatest-is-choice, chosen-stands}

-- comparisons of numbers
pub at-most : (p q : PType) (n m : ℕ) → n ≤ m → compares Lte (int_val p (pos n)) (int_val q (pos m)) ≡ true
at-most p q n m h = by (ltb n m) (ltb m n) (le-ltb m n h)
  where
    by : (a b : Bool) → b ≡ false → is_true_val (bool_val (is_le (cond a Less (cond b Greater Equal)))) ≡ true
    by true b e = refl
    by false false e = refl
    by false true e = let no : ⊥ = cc in absurd no

pub at-least : (p q : PType) (n m : ℕ) → m ≤ n → compares Gte (int_val p (pos n)) (int_val q (pos m)) ≡ true
at-least p q n m h = by (ltb n m) (ltb m n) (le-ltb n m h)
  where
    by : (a b : Bool) → a ≡ false → is_true_val (bool_val (is_ge (cond a Less (cond b Greater Equal)))) ≡ true
    by false true e = refl
    by false false e = refl
    by true b e = let no : ⊥ = cc in absurd no

-- a column is found by its path
at-path : (c : GeneratedColumn) (row : ℕ) → path_value (name_of c ∷ []) (generated_row row) ≡ value_at c row
at-path id_column row = refl
at-path v_column row = refl

-- a bound that stands so to each number bounds the rows
bounds-rows : (op : CompareOperator) (R : ℕ → ℕ → Type 0) → ((p q : PType) (n m : ℕ) → R n m → compares op (int_val p (pos n)) (int_val q (pos m)) ≡ true)
    → (c : GeneratedColumn) (m : ℕ) (is : List ℕ) → OnNumbers (R m) (map (number_at c) is)
    → list_all (λ row. is_null_val (path_value (name_of c ∷ []) row) || compares op (int_val (integer_of c) (pos m)) (path_value (name_of c ∷ []) row)) (map generated_row is) ≡ true
bounds-rows op R tells c m [] h = refl
bounds-rows op R tells c m (i ∷ is) h =
    and_from _ _
    (ap (λ (x : Val). is_null_val x || compares op (int_val (integer_of c) (pos m)) x) (at-path c i) ∙ by (number_at c i) h.0)
    (bounds-rows op R tells c m is h.1)
  where
    by : (n : Option ℕ) → OnNumber (R m) n
        → (is_null_val (number_val (integer_of c) n) || compares op (int_val (integer_of c) (pos m)) (number_val (integer_of c) n)) ≡ true
    by None k = refl
    by (Some n) k = tells (integer_of c) (integer_of c) m n k

-- a chosen number bounds the rows, and so does none where there are no numbers
chosen-bounds : (op : CompareOperator) (R : ℕ → ℕ → Type 0) → ((p q : PType) (n m : ℕ) → R n m → compares op (int_val p (pos n)) (int_val q (pos m)) ≡ true)
    → (c : GeneratedColumn) (n : Option ℕ) (is : List ℕ) → ((m : ℕ) → n ≡ Some m → OnNumbers (R m) (map (number_at c) is))
    → bounds_all op (value_of (bound_value (integer_of c) n)) (name_of c ∷ []) (map generated_row is) ≡ true
unfolding valued
chosen-bounds op R tells c None is h = refl
chosen-bounds op R tells c (Some m) is h = bounds-rows op R tells c m is (h m refl)

least-bounds : (c : GeneratedColumn) (rows block : ℕ)
    → honest_value Min (name_of c ∷ []) (value_of (bound_in c Min rows block)) (generated_block rows block) ≡ true
least-bounds c rows block =
    chosen-bounds Lte (λ n m. n ≤ m) at-most c (bound_of Min (numbers_in c rows block)) (rows_in rows block)
    (λ m e. chosen-stands min (λ n m. n ≤ m) least-is-choice (numbers_in c rows block) m e)

greatest-bounds : (c : GeneratedColumn) (rows block : ℕ)
    → honest_value Max (name_of c ∷ []) (value_of (bound_in c Max rows block)) (generated_block rows block) ≡ true
greatest-bounds c rows block =
    chosen-bounds Gte (λ n m. m ≤ n) at-least c (bound_of Max (numbers_in c rows block)) (rows_in rows block)
    (λ m e. chosen-stands max (λ n m. m ≤ n) greatest-is-choice (numbers_in c rows block) m e)

-- block by block
honest-blocks : (stat : Stat) (path : List Bytes) (f : ℕ → Typed) (g : ℕ → List Val) (a n : ℕ) → ((i : ℕ) → honest_value stat path (value_of (f i)) (g i) ≡ true)
    → honest_values stat path (map f (range_with_len a n)) (map g (range_with_len a n)) ≡ true
honest-blocks stat path f g a zero h = refl
honest-blocks stat path f g a (suc n) h = and_from _ _ (h a) (honest-blocks stat path f g (a + 1) n h)

least-honest : (rows : ℕ) (c : GeneratedColumn)
    → honest_values Min (name_of c ∷ []) (bounds_of rows c Min).values (map (generated_block rows) (range_with_len 0 ((rows + 63) / 64))) ≡ true
least-honest rows c = honest-blocks Min (name_of c ∷ []) (bound_in c Min rows) (generated_block rows) 0 ((rows + 63) / 64) (least-bounds c rows)

greatest-honest : (rows : ℕ) (c : GeneratedColumn)
    → honest_values Max (name_of c ∷ []) (bounds_of rows c Max).values (map (generated_block rows) (range_with_len 0 ((rows + 63) / 64))) ≡ true
greatest-honest rows c = honest-blocks Max (name_of c ∷ []) (bound_in c Max rows) (generated_block rows) 0 ((rows + 63) / 64) (greatest-bounds c rows)

pub generated_zones_are_honest : GeneratedZonesAreHonest
generated_zones_are_honest rows =
    and_from _ _ (least-honest rows id_column)
    (and_from _ _ (greatest-honest rows id_column) (and_from _ _ (least-honest rows v_column) (and_from _ _ (greatest-honest rows v_column) refl)))
