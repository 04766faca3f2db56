use Rattle.std.proofs.Common.{◌≡◌, ◌∙◌, ap, sym, subst, map, Option}
use Rattle.std.specs.Prelude.{IfOk}
use Rattle.std.specs.String.{string_bytes}
use Rattle.vx_query.specs.Running.{Form, form_of}
use Rattle.vx_calls.specs.Answers.{answer_told}
use Rattle.vx_run_calls.specs.MemoryRuns.{IsRunOf, form_in, words_of}
use Rattle.vx_run_calls.proofs.WordLemmas.{form_known, form_unknown}
use Rattle.vx_run_calls.proofs.memory_runs.run_bytes.Goals as goal

pub returns-in_ok-arguments-in-Ok : goal.returns-in_ok-arguments-in-Ok
returns-in_ok-arguments-in-Ok c =
    let words = c.args.words.now in
    let form : form_of (map string_bytes c.as_slice.result.now) ≡ form_in words =
    ap (λ ws. form_of (map string_bytes ws)) c.as_slice.ensures.value ∙ ap form_of c.in_ok-arguments-in-Ok.ensures
    ∙ ap (λ text. form_of (words_of text)) c.in-Ok.ensures.cases.0 ∙ sym (form_known words c.in-Ok.ensures.cases.1) in
    subst (λ (f : Option Form). IfOk c.run_words.result (λ answer. IsRunOf f c.args.input.now (answer_told answer))) form c.run_words.ensures

pub returns-in-Err : goal.returns-in-Err
returns-in-Err c =
    subst (λ (f : Option Form). IfOk c.run_words-in-Err.result (λ answer. IsRunOf f c.args.input.now (answer_told answer)))
    (sym (form_unknown c.args.words.now c.in-Err.ensures.cases.0)) c.run_words-in-Err.ensures
