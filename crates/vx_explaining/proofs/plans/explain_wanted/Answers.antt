use Rattle.std.proofs.Common.{sym, subst, Err}
use Rattle.vx_laws_shell.specs.Running.{end_by}
use Rattle.vx_sql.specs.StatementAnswers.{plan_view}
use Rattle.vx_laws_explaining.specs.Explained as spec
use Rattle.vx_laws_explaining.specs.Explanations.{explanation_in}
use Rattle.vx_explaining.specs.ExplainedViews.{form_view}
use Rattle.vx_explaining.specs.PlanSteps.{ExplainsPlan}
use Rattle.vx_explaining.specs.declared.errors.Refusal.{Refusal}
use Rattle.vx_explaining.proofs.PlanLemmas.{piece_explained}
use Rattle.vx_explaining.proofs.plans.explain_wanted.Goals as goal

pub returns-in-Ok : goal.returns-in-Ok
returns-in-Ok g c = c.in-Ok.ensures.writes

pub returns-in-Err : goal.returns-in-Err
returns-in-Err g c =
    let before = end_by g.O.Sink.written g.O.Sink.faults c.args.output.now in
    let after = end_by g.O.Sink.written g.O.Sink.faults c.write_plan.new.output in
    let text = explanation_in (form_view c.args.form) (spec.explained_of c.args.zones.now (plan_view c.args.plan.now)) in
    subst (λ (r : Refusal). ExplainsPlan text before after (Err r)) (sym c.from.ensures) (piece_explained text before after c.in-Err.error c.in-Err.ensures.writes)
