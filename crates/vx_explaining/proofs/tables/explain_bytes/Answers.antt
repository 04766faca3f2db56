use Rattle.std.proofs.Common.{sym, subst, Err}
use Rattle.vx_laws_shell.specs.Running.{end_by}
use Rattle.vx_request.specs.RequestViews.{told_view}
use Rattle.vx_explaining.specs.ExplainedViews.{asked_view}
use Rattle.vx_explaining.specs.ExplainingSteps.{AnswersWords}
use Rattle.vx_explaining.specs.declared.errors.Refusal.{Refusal}
use Rattle.vx_explaining.proofs.RunLemmas.{told_zones, untold_answer, untold_so, zones_answer}
use Rattle.vx_explaining.proofs.tables.explain_bytes.Goals as goal

pub returns-in-Ok : goal.returns-in-Ok
returns-in-Ok g c = λ words paths i j takes part.
    let before = end_by g.O.Sink.written g.O.Sink.faults c.args.output.now in
    let after = end_by g.O.Sink.written g.O.Sink.faults c.explain_zones.new.output in
    let told = told_view c.in-Ok.told in
    zones_answer words paths i j before after (asked_view c.args.asked) told.zones c.explain_zones.result part
    (told_zones words paths i j (asked_view c.args.asked) c.args.bytes.now told takes c.in-Ok.ensures) c.explain_zones.ensures.explains

pub returns-in-Err : goal.returns-in-Err
returns-in-Err g c = λ words paths i j takes part.
    let output = end_by g.O.Sink.written g.O.Sink.faults c.args.output.now in
    subst (λ (r : Refusal). AnswersWords words paths i j output output (Err r)) (sym c.from.ensures)
    (untold_answer words paths i j output (asked_view c.args.asked) c.args.bytes.now c.in-Err.error part takes
    (untold_so c.args.bytes.now c.in-Err.error c.in-Err.ensures))
