use Rattle.std.proofs.Common.{◌≡◌, ◌∙◌, ℕ, subst, sym, ap, map, option_map, Some, None}
use Rattle.std.specs.String.{string_bytes}
use Rattle.vx_laws_shell.specs.Running.{end_by}
use Rattle.vx_laws_writing.specs.WriteWords.{write_asked_of}
use Rattle.vx_laws_writing.specs.Writing.{IsWriteRun, files_end}
use Rattle.vx_laws_writing.proofs.WordLemmas.{asked_cuts}
use Rattle.vx_shell_words.specs.WordViews.{write_view}
use Rattle.vx_writing.proofs.RunLemmas.{run_misused}
use Rattle.vx_writing.proofs.running.write.Goals as goal

pub run-requires : goal.run-requires
run-requires g c =
    let words = map string_bytes c.args.words.now in
    let ask = write_view c.in-Ok-Some.ask in
    let form : write_asked_of words ≡ Some ask = sym c.in-Ok-Some.ensures ∙ ap (option_map write_view) c.in-Ok-Some.field-0-is in
    asked_cuts words ask form

pub returns-in-Ok-None : goal.returns-in-Ok-None
returns-in-Ok-None g c =
    let words = map string_bytes c.args.words.now in
    let input = end_by g.I.Source.left g.I.Source.faults c.args.input.now in
    let files = files_end g.F.Files.kept g.F.Files.faults c.args.files.now in
    let form : write_asked_of words ≡ None = sym c.in-Ok-None.ensures ∙ ap (option_map write_view) c.in-Ok-None.field-0-is in
    subst (λ (status : ℕ). IsWriteRun words input input files files status) (sym c.refuse.ensures) (run_misused words input files form)
