-- For the checker: no public clause cites this.
-- A child is less high than its node: so recursions over expressions end.
use Rattle.std.specs.Prelude.{◌*◌, ◌≤◌}
use Rattle.std.proofs.Common.{arith}
use Rattle.vx_expr.specs.declared.expressions.Expr.{Expr}
use Rattle.vx_expr.specs.declared.expressions.Expr.TheVariants.{Between, Binary, Cast, Dynamic, GetItem, IsNull, Like}
use Rattle.vx_expr.specs.declared.expressions.Expr.TheVariants.{ListContains, Literal, Merge, Not, Pack, Root, Select}
use Rattle.vx_expr.specs.declared.expressions.ExprRef.TheDeep.{deep-Expr}
use Rattle.vx_expr.specs.Heights.{height, most_le-highest}
use Rattle.vx_expr.specs.Nodes.{node_tree}

-- no child of a node is as high as the node
pub deep_le-height : (x : Expr) → deep-Expr x ≤ 2 * height (node_tree x)
deep_le-height (Between x) = omega arith
deep_le-height (Binary x) = omega arith
deep_le-height (Cast x) = omega arith
deep_le-height (Dynamic x) = omega arith
deep_le-height (GetItem x) = omega arith
deep_le-height (IsNull x) = omega arith
deep_le-height (Like x) = omega arith
deep_le-height (ListContains x) = omega arith
deep_le-height (Literal x) = omega arith
deep_le-height (Merge x) = omega (arith, most_le-highest x.values.items)
deep_le-height (Not x) = omega arith
deep_le-height (Pack x) = omega arith
deep_le-height (Root x) = omega arith
deep_le-height (Select x) = omega arith
