use Rattle.vx_laws_shell.specs.Running.{end_by}
use Rattle.vx_sql.specs.StatementAnswers.{plan_view}
use Rattle.vx_shell.proofs.PlanScans.{unwanted}
use Rattle.vx_shell.proofs.answers.write_filtered.Goals as goal

pub write_wanted-requires-clause-wanted : goal.write_wanted-requires-clause-wanted
write_wanted-requires-clause-wanted g c = c.in-Ok.ensures (g.S.ColumnStore.seen c.args.store.now).zones.columns

pub returns-in-Err-clause-finds : goal.returns-in-Err-clause-finds
returns-in-Err-clause-finds g c =
    let store = g.S.ColumnStore.seen c.args.store.now in
    unwanted (plan_view c.args.plan.now) store (end_by g.O.Sink.written g.O.Sink.faults c.args.output.now) c.in-Err.refusal (c.in-Err.ensures store.zones.columns)
