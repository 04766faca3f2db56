use Rattle.vx_laws_shell.specs.Answers.{answer_wanted}
use Rattle.vx_laws_shell.specs.Running.{end_by}
use Rattle.vx_laws_shell.specs.Wants.{wanted_of}
use Rattle.vx_sql.specs.StatementAnswers.{plan_view}
use Rattle.vx_shell.proofs.OrderedSteps.{finds_no_room}
use Rattle.vx_shell.proofs.answers.write_planned.Goals as goal

pub returns-in-Err-clause-finds : goal.returns-in-Err-clause-finds
returns-in-Err-clause-finds g c =
    let store = g.S.ColumnStore.seen c.args.store.now in
    let plan = plan_view c.args.plan.now in
    finds_no_room (λ is_damaged table. answer_wanted is_damaged table store.zones plan (wanted_of store.zones.columns plan)) store
    (end_by g.O.Sink.written g.O.Sink.faults c.args.output.now)
