use Rattle.vx_laws_shell.specs.Running.{end_by}
use Rattle.vx_sql.specs.StatementAnswers.{plan_view}
use Rattle.vx_laws_explaining.specs.Explained as spec
use Rattle.vx_laws_explaining.specs.Explanations.{explanation_in}
use Rattle.vx_explaining.specs.ExplainedViews.{asked_view, form_view}
use Rattle.vx_explaining.proofs.PlanLemmas.{explanation_is, plan_explained, plan_unwanted}
use Rattle.vx_explaining.proofs.plans.explain_plan.Goals as goal

pub explain_wanted-requires : goal.explain_wanted-requires
explain_wanted-requires g c =
    record { rules = c.requires.rules; lengths = c.requires.lengths; planned = (c.args.asked.statement.now, c.requires.planned) }

pub returns-in-Ok : goal.returns-in-Ok
returns-in-Ok g c =
    let zones = c.args.zones.now in
    let plan = plan_view c.args.plan.now in
    let asked = asked_view c.args.asked in
    let before = end_by g.O.Sink.written g.O.Sink.faults c.args.output.now in
    let after = end_by g.O.Sink.written g.O.Sink.faults c.explain_wanted.new.output in
    let wanted = c.in-Ok.ensures zones.columns in
    plan_explained zones asked (explanation_in (form_view c.args.asked.form) (spec.explained_of zones plan)) before after c.explain_wanted.result
    (explanation_is zones asked plan wanted.0 c.requires.planned wanted.1) c.explain_wanted.ensures

pub returns-in-Err : goal.returns-in-Err
returns-in-Err g c =
    let zones = c.args.zones.now in
    plan_unwanted zones (asked_view c.args.asked) (plan_view c.args.plan.now) (end_by g.O.Sink.written g.O.Sink.faults c.args.output.now) c.in-Err.refusal
    c.requires.planned (c.in-Err.ensures zones.columns)
