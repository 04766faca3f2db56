use Rattle.std.proofs.Common.{map, drop}
use Rattle.vx_dtype.specs.TypeViews.{type_view}
use Rattle.vx_typing.specs.OperandTypes.{IsLooselyAnswered}
use Rattle.vx_typing.proofs.PostOrderValues.{Made}
use Rattle.vx_typing.proofs.loose_typing.return_dtype.Given as goal

-- the answers so far are those of expressions of which the nodes that are left make the whole
abbrev pub invariant-loop-node : goal.invariant-loop-node
invariant-loop-node l = Made (IsLooselyAnswered (type_view l.scope)) (map (λ e. e.now) (drop l.node-index l.node-items)) l.answers.items l.expr
