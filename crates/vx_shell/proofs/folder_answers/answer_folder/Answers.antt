use Rattle.vx_folder.specs.PathViews.{paths_by}
use Rattle.vx_laws_shell.specs.Running.{end_by}
use Rattle.vx_shell.specs.Refusals.{refusal_kind}
use Rattle.vx_shell_words.specs.WordViews.{asked_view}
use Rattle.vx_shell.proofs.FolderRuns.{folder_run, refused_run}
use Rattle.vx_shell.proofs.folder_answers.answer_folder.Goals as goal

pub answer_opened-requires : goal.answer_opened-requires
answer_opened-requires g c = record { order = c.requires; new = c.in-Ok.ensures.new }

pub returns-in-Ok : goal.returns-in-Ok
returns-in-Ok g c = λ words name source asks origin.
    let paths = paths_by (g.F.Files.kept c.args.files.now) (g.F.Files.listed c.args.files.now) in
    let before = end_by g.O.Sink.written g.O.Sink.faults c.args.output.now in
    let after = end_by g.O.Sink.written g.O.Sink.faults c.answer_opened.new.output in
    folder_run words paths source before after (asked_view c.args.asked) name c.args.path.now asks origin c.in-Ok.opened c.answer_opened.result
    c.in-Ok.ensures.opened c.answer_opened.ensures

pub returns-in-Err : goal.returns-in-Err
returns-in-Err g c = λ words name source asks origin.
    let paths = paths_by (g.F.Files.kept c.args.files.now) (g.F.Files.listed c.args.files.now) in
    let output = end_by g.O.Sink.written g.O.Sink.faults c.args.output.now in
    refused_run words paths source output (asked_view c.args.asked) name c.args.path.now asks origin c.in-Err.error
    (refusal_kind c.folder_refusal.result) c.in-Err.ensures.refused c.folder_refusal.ensures
