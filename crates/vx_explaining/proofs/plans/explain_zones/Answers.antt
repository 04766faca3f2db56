use Rattle.std.proofs.Common.{◌≡◌, subst, Ok}
use Rattle.vx_dtype.specs.Types.{Ty}
use Rattle.vx_laws_shell.specs.Running.{end_by}
use Rattle.vx_laws_statements.specs.Statements.{plan_of}
use Rattle.vx_sql.specs.StatementAnswers.{plan_view}
use Rattle.vx_sql_lines.specs.Told.{TellsRefusal}
use Rattle.vx_explaining.specs.ExplainedViews.{asked_view}
use Rattle.vx_explaining.proofs.PlanLemmas.{unplanned_told}
use Rattle.vx_explaining.proofs.plans.explain_zones.Goals as goal

pub explain_plan-requires : goal.explain_plan-requires
explain_plan-requires g c = record {
  rules = c.dtype.ensures.rules;
  lengths = c.lengths-lengths.ensures.lengths;
  planned = subst (λ (t : Ty). plan_of t c.args.asked.statement.now ≡ Ok (plan_view c.in-Ok.plan)) c.dtype.ensures.dtype c.in-Ok.ensures;
}

pub returns-in-Err-clause-explains : goal.returns-in-Err-clause-explains
returns-in-Err-clause-explains g c =
    let text = c.args.asked.statement.now in
    unplanned_told c.args.zones.now (asked_view c.args.asked) (end_by g.O.Sink.written g.O.Sink.faults c.args.output.now) c.in-Err.error
    c.statement_refusal.result (subst (λ (t : Ty). TellsRefusal text t (plan_of t text) c.in-Err.error) c.dtype.ensures.dtype c.in-Err.ensures)
    c.statement_refusal.ensures
