-- For the checker: no public clause cites this.
-- With which operand a walk goes on by its loop, the other one being gone down by a call: so chains of `and`, of `or` and of the other
-- operators are gone down to either side without a call for each link.
use Rattle.std.specs.Prelude.{Bool, false, ◌&&◌, ◌||◌, not}
use Rattle.vx_expr.specs.declared.operators.Operator.{Operator}
use Rattle.vx_expr.specs.Trees.{Tree, binary}
use Rattle.vx_expr.specs.Equal.{same_operator}

-- whether a node is two operands under this operator
abbrev pub is_under : Operator → Tree → Bool
is_under op (binary l oq r) = same_operator oq op
is_under _ _ = false

-- whether a node is an `and` or an `or`
abbrev pub is_logical : Tree → Bool
is_logical e = is_under Operator.And e || is_under Operator.Or e

-- whether a walk goes on with the left operand: where it is under the same operator, or it alone is an `and` or an `or`
abbrev pub leans_left : Operator → Tree → Tree → Bool
leans_left op l r = is_under op l || (is_logical l && not (is_logical r))
