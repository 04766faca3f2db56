-- Lists of expressions, and lists as the tree holds them.
use Rattle.std.proofs.Common.{◌≡◌, ◌≢◌, ◌<◌, ◌≤◌, ℕ, zero, suc, arith, Bool, true, false, ◌&&◌, List, [], ◌∷◌, length, refl, ap, ◌∙◌}
use Rattle.std.proofs.Math.ListN.{get_or}
use Rattle.vx_expr.specs.declared.operators.Operator.{Operator}
use Rattle.vx_expr.specs.Equal.{same_operator, tree_eq, trees_eq}
use Rattle.vx_expr.specs.Heights.{height, highest}
use Rattle.vx_expr.specs.Trees.{Tree, binary, Trees, no_trees, tree, trees_of, listed}

pub listed_trees_of : (es : List Tree) → listed (trees_of es) ≡ es
listed_trees_of [] = refl
listed_trees_of (e ∷ es) = ap (λ ds. e ∷ ds) (listed_trees_of es)

pub trees_of_listed : (es : Trees) → trees_of (listed es) ≡ es
trees_of_listed no_trees = refl
trees_of_listed (tree e es) = ap (tree e) (trees_of_listed es)

and_false : (a : Bool) → (a && false) ≡ false
and_false true = refl
and_false false = refl

and_true : (a : Bool) → (a && true) ≡ a
and_true true = refl
and_true false = refl

-- where the right operands differ, so do the whole
pub other_right_operands : (l r k q : Tree) (op oq : Operator) → tree_eq r q ≡ false → tree_eq (binary l op r) (binary k oq q) ≡ false
unfolding tree_eq
other_right_operands l r k q op oq other =
    ap (λ b. same_operator op oq && (tree_eq l k && b)) other ∙ ap (λ b. same_operator op oq && b) (and_false (tree_eq l k)) ∙ and_false (same_operator op oq)

-- under the same operator, and where the right operands are the same, the left ones tell
pub left_operands_tell : (l r k q : Tree) (op oq : Operator) → same_operator op oq ≡ true → tree_eq r q ≡ true → tree_eq (binary l op r) (binary k oq q) ≡ tree_eq l k
unfolding tree_eq
left_operands_tell l r k q op oq under same = ap (λ b. b && (tree_eq l k && tree_eq r q)) under ∙ ap (λ b. tree_eq l k && b) same ∙ and_true (tree_eq l k)

-- and where the left ones are the same, the right ones
pub right_operands_tell : (l r k q : Tree) (op oq : Operator) → same_operator op oq ≡ true → tree_eq l k ≡ true → tree_eq (binary l op r) (binary k oq q) ≡ tree_eq r q
unfolding tree_eq
right_operands_tell l r k q op oq under same = ap (λ b. b && (tree_eq l k && tree_eq r q)) under ∙ ap (λ b. b && tree_eq r q) same

-- lists of other lengths differ
pub trees_eq_lengths : (es ds : List Tree) → length es ≢ length ds → trees_eq (trees_of es) (trees_of ds) ≡ false
unfolding trees_eq
trees_eq_lengths [] [] h = absurd (h refl)
trees_eq_lengths [] (d ∷ ds) h = refl
trees_eq_lengths (e ∷ es) [] h = refl
trees_eq_lengths (e ∷ es) (d ∷ ds) h =
    ap (λ b. tree_eq e d && b) (trees_eq_lengths es ds (λ m. h (ap suc m))) ∙ and_false (tree_eq e d)

-- no expression of a list is higher than the highest
pub height_at : (es : List Tree) (i : ℕ) (d : Tree) → i < length es → height (get_or es i d) ≤ highest (trees_of es)
height_at [] i d h = absurd (omega (arith, h))
height_at (e ∷ es) zero d h = omega arith
height_at (e ∷ es) (suc i) d h = omega (arith, height_at es i d (omega (arith, h)))
