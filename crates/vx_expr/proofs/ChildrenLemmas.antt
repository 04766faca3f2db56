-- A node takes its own children back, and no other number of them.
use Rattle.std.proofs.Common.{◌≡◌, ◌≢◌, ℕ, arith, ◌==◌, Bool, true, false, List, [], ◌∷◌, length, Option, Some, None, option_map, is_some, refl, ◌∙◌}
use Rattle.std.specs.Cmp.{unsigned_Decides}
use Rattle.vx_expr.specs.Trees.{Tree, root, literal, get_item, binary, not_of, is_null_of, like, between, cast, list_contains, pack, merge, select, dynamic, trees_of, listed, children_of}
use Rattle.vx_expr.specs.Children.{one_of, two_of, three_of, where_so, with_children_of}
use Rattle.vx_expr.proofs.TreeLemmas.{trees_of_listed}

-- with its own children a node is as it was
pub with_own_children : (e : Tree) → with_children_of e (children_of e) ≡ Some e
with_own_children root = refl
with_own_children (literal s) = refl
with_own_children (get_item f e) = refl
with_own_children (binary l op r) = refl
with_own_children (not_of e) = refl
with_own_children (is_null_of e) = refl
with_own_children (like e p negated fold_case) = refl
with_own_children (between e lower upper options) = refl
with_own_children (cast e t) = refl
with_own_children (list_contains l v) = refl
with_own_children (pack names es n) = λ i. where_so ((unsigned_Decides (length (listed es)) (length (listed es))).1 refl i) (pack names (trees_of_listed es i) n)
with_own_children (merge es n) = λ i. where_so ((unsigned_Decides (length (listed es)) (length (listed es))).1 refl i) (merge (trees_of_listed es i) n)
with_own_children (select s e) = refl
with_own_children (dynamic e op k t default) = refl

is_some_where : {A : Type 0} (b : Bool) (x : A) → is_some (where_so b x) ≡ b
is_some_where true x = refl
is_some_where false x = refl

is_some_map : {A B : Type 0} (f : A → B) (o : Option A) → is_some (option_map f o) ≡ is_some o
is_some_map f None = refl
is_some_map f (Some x) = refl

false_where_not : (b : Bool) → (b ≡ true → ⊥) → false ≡ b
false_where_not true not_so = absurd (not_so refl)
false_where_not false not_so = refl

-- two numbers that differ are not equal by the test
differ : (m n : ℕ) → m ≢ n → false ≡ (m == n)
differ m n h = false_where_not (m == n) (λ e. h ((unsigned_Decides m n).0 e))

module _ {A : Type 0} where
  one_taken : (xs : List A) → is_some (one_of xs) ≡ (length xs == 1)
  one_taken [] = refl
  one_taken (x ∷ []) = refl
  one_taken (x ∷ y ∷ xs) = differ (length (x ∷ y ∷ xs)) 1 (λ e. omega (arith, e))

  two_taken : (xs : List A) → is_some (two_of xs) ≡ (length xs == 2)
  two_taken [] = refl
  two_taken (x ∷ []) = refl
  two_taken (x ∷ y ∷ []) = refl
  two_taken (x ∷ y ∷ z ∷ xs) = differ (length (x ∷ y ∷ z ∷ xs)) 2 (λ e. omega (arith, e))

  three_taken : (xs : List A) → is_some (three_of xs) ≡ (length xs == 3)
  three_taken [] = refl
  three_taken (x ∷ []) = refl
  three_taken (x ∷ y ∷ []) = refl
  three_taken (x ∷ y ∷ z ∷ []) = refl
  three_taken (x ∷ y ∷ z ∷ w ∷ xs) = differ (length (x ∷ y ∷ z ∷ w ∷ xs)) 3 (λ e. omega (arith, e))

-- children are taken exactly where there are as many as the node has
pub taken_where_as_many : (e : Tree) (cs : List Tree) → is_some (with_children_of e cs) ≡ (length cs == length (children_of e))
taken_where_as_many root cs = is_some_where (length cs == 0) root
taken_where_as_many (literal s) cs = is_some_where (length cs == 0) (literal s)
taken_where_as_many (get_item f e) cs = is_some_map (get_item f) (one_of cs) ∙ one_taken cs
taken_where_as_many (binary l op r) cs = is_some_map (λ c. binary c.0 op c.1) (two_of cs) ∙ two_taken cs
taken_where_as_many (not_of e) cs = is_some_map not_of (one_of cs) ∙ one_taken cs
taken_where_as_many (is_null_of e) cs = is_some_map is_null_of (one_of cs) ∙ one_taken cs
taken_where_as_many (like e p negated fold_case) cs = is_some_map (λ c. like c.0 c.1 negated fold_case) (two_of cs) ∙ two_taken cs
taken_where_as_many (between e lower upper options) cs = is_some_map (λ c. between c.0 c.1 c.2 options) (three_of cs) ∙ three_taken cs
taken_where_as_many (cast e t) cs = is_some_map (λ c. cast c t) (one_of cs) ∙ one_taken cs
taken_where_as_many (list_contains l v) cs = is_some_map (λ c. list_contains c.0 c.1) (two_of cs) ∙ two_taken cs
taken_where_as_many (pack names es n) cs = is_some_where (length cs == length (listed es)) (pack names (trees_of cs) n)
taken_where_as_many (merge es n) cs = is_some_where (length cs == length (listed es)) (merge (trees_of cs) n)
taken_where_as_many (select s e) cs = is_some_map (select s) (one_of cs) ∙ one_taken cs
taken_where_as_many (dynamic e op k t default) cs = is_some_map (λ c. dynamic c op k t default) (one_of cs) ∙ one_taken cs
