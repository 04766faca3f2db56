-- The conjuncts of an expression: the operands of its nested `and`s, left to right.
use Rattle.std.specs.Prelude.{List, [], ◌∷◌, ◌++◌}
use Rattle.vx_expr.specs.declared.operators.Operator.{Operator}
use Rattle.vx_expr.specs.Trees.{Tree, binary}

-- the expression itself where it is no `and`, else the conjuncts of its two sides
unfoldable pub conjuncts_of : Tree → List Tree
conjuncts_of (binary l Operator.And r) = conjuncts_of l ++ conjuncts_of r
conjuncts_of e = e ∷ []
