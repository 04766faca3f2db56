use Rattle.std.proofs.Common.{map, drop}
use Rattle.vx_eval.specs.Scopes.{scope_rows, scope_slots}
use Rattle.vx_eval.specs.Steps.{IsComputed}
use Rattle.vx_typing.proofs.PostOrderValues.{Made}
use Rattle.vx_eval.proofs.columns.column_of.Given as goal

-- the columns so far are those of expressions of which the nodes that are left make the whole
abbrev pub invariant-loop-node : goal.invariant-loop-node
invariant-loop-node l =
    Made (IsComputed (scope_rows l.scope).ty (scope_slots l.scope) (scope_rows l.scope).rows) (map (λ e. e.now) (drop l.node-index l.node-items)) l.columns.items l.expr
