use Rattle.vx_eval.specs.Evaluating.{checked_type}
use Rattle.vx_eval.specs.Scopes.{scope_rows, scope_slots}
use Rattle.vx_block_pruning.proofs.RulingLemmas.{is-boolean}
use Rattle.vx_block_pruning.proofs.truths.evaluated.Goals as goal

pub returns-in-Ok-clause-kind : goal.returns-in-Ok-clause-kind
returns-in-Ok-clause-kind c =
    let s = c.args.scope.now in
    is-boolean (checked_type (scope_rows s).ty (scope_slots s) c.args.expr.now) c.in-Ok.column.ty c.requires.null c.requires.typed c.in-Ok.ensures.0
