use Rattle.std.proofs.Common.{sym, subst}
use Rattle.vx_file.specs.FileStates.{FileState}
use Rattle.vx_file_scan.specs.FirstFailures.{IsUnread}
use Rattle.vx_laws_shell.specs.Running.{end_by}
use Rattle.vx_shell.specs.FileRuns.{AnswersFile, ReportsFile}
use Rattle.vx_shell_words.specs.WordViews.{asked_view}
use Rattle.vx_shell.proofs.FileRuns.{file_answered}
use Rattle.vx_shell.proofs.file_answers.answer_opened.Goals as goal

pub returns : goal.returns
returns g c =
    let first : FileState = c.new.result in
    let last : FileState = c.answer-found.result.store in
    let found = c.answer-found.result.found in
    let asked = asked_view c.args.asked in
    let before = end_by g.O.Sink.written g.O.Sink.faults c.args.output.now in
    let after = end_by g.O.Sink.written g.O.Sink.faults c.answer-found.new.output in
    let result = c.file_report.result in
    subst (λ (s : FileState). AnswersFile asked s before after result) c.new.ensures
    (file_answered asked first last before after found result (subst IsUnread (sym c.new.ensures) c.requires.unread) c.answer-found.ensures.moves c.into_file-left.ensures.kept
    c.answer-found.ensures.answers (subst (λ (t : FileState). ReportsFile t.damaged found result) c.into_file-left.ensures.file c.file_report.ensures))
