-- Joining one operand more.
use Rattle.std.proofs.Common.{◌≡◌, List, [], ◌∷◌, ◌++◌, Some, refl, ap}
use Rattle.vx_expr.specs.declared.Operator.{Operator}
use Rattle.vx_expr.specs.Trees.{Tree, binary}
use Rattle.vx_build.specs.Collectors.{joined_before, joined_right, joined_after}

pub joined_before_last : (op : Operator) (e : Tree) (xs : List Tree) (x j : Tree) → joined_before op e ((xs ++ x ∷ []) ++ j ∷ []) ≡ joined_before op e (xs ++ binary x op j ∷ [])
joined_before_last op e [] x j = refl
joined_before_last op e (y ∷ ys) x j = ap (binary e op) (joined_before_last op y ys x j)

-- the last two operands may be joined before the others
pub joined_right_last : (op : Operator) (xs : List Tree) (x j : Tree) → joined_right op ((xs ++ x ∷ []) ++ j ∷ []) ≡ joined_right op (xs ++ binary x op j ∷ [])
joined_right_last op [] x j = refl
joined_right_last op (y ∷ ys) x j = ap Some (joined_before_last op y ys x j)

-- an operand after the others is joined last
pub joined_after_last : (op : Operator) (e : Tree) (xs : List Tree) (x : Tree) → joined_after op e (xs ++ x ∷ []) ≡ binary (joined_after op e xs) op x
joined_after_last op e [] x = refl
joined_after_last op e (y ∷ ys) x = joined_after_last op (binary e op y) ys x
