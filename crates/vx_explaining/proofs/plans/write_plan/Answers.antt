use Rattle.std.proofs.Common.{◌∙◌, ap, sym, subst, length}
use Rattle.vx_laws_shell.specs.Running.{end_by}
use Rattle.vx_sql.specs.StatementAnswers.{plan_view}
use Rattle.vx_laws_explaining.specs.Explained as spec
use Rattle.vx_laws_explaining.specs.Explanations.{explanation_in}
use Rattle.vx_laws_explaining.proofs.SkippedBlocks.{each_block_is_told}
use Rattle.vx_explaining.specs.ExplainedViews.{form_view}
use Rattle.vx_explaining.specs.ExplainingSteps.{WritesText}
use Rattle.vx_explaining.proofs.WriteLemmas.{none_cut}
use Rattle.vx_explaining.proofs.plans.write_plan.Goals as goal

pub write_explanation-requires : goal.write_explanation-requires
write_explanation-requires g c =
    let same = c.in-Ok.ensures in
    ap (λ (x : spec.Explained). length x.skipped) same ∙ each_block_is_told c.args.zones.now (plan_view c.args.plan.now)
    ∙ sym (ap (λ (x : spec.Explained). length x.lengths) same)

pub returns-in-Ok : goal.returns-in-Ok
returns-in-Ok g c =
    let before = end_by g.O.Sink.written g.O.Sink.faults c.args.output.now in
    let after = end_by g.O.Sink.written g.O.Sink.faults c.write_explanation.new.output in
    subst (λ (x : spec.Explained). WritesText (explanation_in (form_view c.args.form) x) before after c.write_explanation.result) c.in-Ok.ensures
    c.write_explanation.ensures

pub returns-in-Err : goal.returns-in-Err
returns-in-Err g c = none_cut _ (end_by g.O.Sink.written g.O.Sink.faults c.args.output.now)
