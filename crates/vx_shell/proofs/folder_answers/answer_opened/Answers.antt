use Rattle.vx_folder.specs.FolderStates.{FolderState}
use Rattle.vx_laws_shell.specs.Running.{end_by}
use Rattle.vx_shell_words.specs.WordViews.{asked_view}
use Rattle.vx_shell.proofs.FolderRuns.{folder_answered}
use Rattle.vx_shell.proofs.folder_answers.answer_opened.Goals as goal

pub returns : goal.returns
returns g c =
    let first : FolderState = c.args.files in
    let last : FolderState = c.answer-found.result.store in
    let before = end_by g.O.Sink.written g.O.Sink.faults c.args.output.now in
    let after = end_by g.O.Sink.written g.O.Sink.faults c.answer-found.new.output in
    folder_answered (asked_view c.args.asked) first last before after c.answer-found.result.found c.folder_report.result c.requires.new
    c.answer-found.ensures.moves c.folder_report.ensures.kept c.answer-found.ensures.answers c.folder_report.ensures.reports
