use Rattle.std.proofs.Common.{ap, sym, subst, Err, List, ℕ}
use Rattle.vx_laws_shell.specs.Running.{end_by}
use Rattle.vx_laws_explaining.specs.Explaining.{TakesTable}
use Rattle.vx_explaining.specs.ExplainedViews.{asked_view}
use Rattle.vx_explaining.specs.ExplainingSteps.{AnswersWords}
use Rattle.vx_explaining.specs.declared.errors.Refusal.{Refusal}
use Rattle.vx_explaining.proofs.RunLemmas.{input_answer}
use Rattle.vx_explaining.proofs.tables.explain_input.Goals as goal

pub returns-in-Ok : goal.returns-in-Ok
returns-in-Ok g c = λ words paths asks.
    let first = end_by g.I.Source.left g.I.Source.faults c.args.input.now in
    let last = end_by g.I.Source.left g.I.Source.faults c.read_up_to.new.input in
    c.explain_bytes.ensures words paths first last
    (subst (λ (bytes : List ℕ). TakesTable words first last (asked_view c.args.asked) bytes) (sym c.as_slice.ensures.value)
    (record { asks = asks; taken = record { bytes = c.in-Ok.ensures.taken; within = c.in-Ok.ensures.within; quiet = c.in-Ok.ensures.quiet } }))
    c.in-Ok.ensures.part

pub returns-in-Err : goal.returns-in-Err
returns-in-Err g c = λ words paths asks.
    let first = end_by g.I.Source.left g.I.Source.faults c.args.input.now in
    let last = end_by g.I.Source.left g.I.Source.faults c.read_up_to.new.input in
    let output = end_by g.O.Sink.written g.O.Sink.faults c.args.output.now in
    subst (λ (r : Refusal). AnswersWords words paths first last output output (Err r)) (sym c.from.ensures)
    (input_answer words paths first last output (asked_view c.args.asked) c.in-Err.error asks c.in-Err.ensures.part (λ same. c.in-Err.ensures.cause (ap Err same)))
