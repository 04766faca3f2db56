use Rattle.std.proofs.Common.{map, drop}
use Rattle.vx_typing.specs.OperandTypes.{IsTyped}
use Rattle.vx_typing.proofs.PostOrderValues.{Made}
use Rattle.vx_typing.proofs.strict_typing.typed_over.Given as goal

-- the types so far are those of expressions of which the nodes that are left make the whole
abbrev pub invariant-loop-node : goal.invariant-loop-node
invariant-loop-node l = Made (IsTyped l.scope) (map (λ e. e.now) (drop l.node-index l.node-items)) l.types.items l.expr
