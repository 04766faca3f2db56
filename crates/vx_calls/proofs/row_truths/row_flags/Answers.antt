use Rattle.vx_eval.specs.Scopes.{scope_rows, scope_slots}
use Rattle.vx_calls.proofs.RowLemmas.{truths_told}
use Rattle.vx_calls.proofs.row_truths.row_flags.Goals as goal

pub returns-in-Ok : goal.returns-in-Ok
returns-in-Ok c = λ columns typed.
    truths_told columns c.args.tree.now c.args.table (scope_rows c.new-scope.result) (scope_slots c.new-scope.result) c.in-Ok.column
    c.in_ok-truths-in-Ok.field-0.items typed
    c.new-scope.ensures.rows c.new-scope.ensures.slots c.in-Ok.ensures c.in_ok-truths-in-Ok.ensures
