use Rattle.std.proofs.Common.{◌∙◌, ap, sym}
use Rattle.vx_laws_shell.specs.Origins.{block_file, folder}
use Rattle.vx_laws_shell.specs.Running.{end_by}
use Rattle.vx_shell.specs.OriginViews.{origin_view}
use Rattle.vx_folder.specs.PathViews.{paths_by}
use Rattle.vx_shell.proofs.running.answer_origin.Goals as goal

pub returns-in-StandardInput : goal.returns-in-StandardInput
returns-in-StandardInput g c = λ words name asks origin.
    let paths = paths_by (g.F.Files.kept c.args.files.now) (g.F.Files.listed c.args.files.now) in
    c.answer_input.ensures words name paths asks (origin ∙ ap origin_view c.in-StandardInput.is)

pub returns-in-BlockFile : goal.returns-in-BlockFile
returns-in-BlockFile g c = λ words name asks origin.
    c.answer_file.ensures words name (end_by g.I.Source.left g.I.Source.faults c.args.input.now) asks
    (origin ∙ ap origin_view c.in-BlockFile.is ∙ ap block_file (sym c.as_str.ensures.value))

pub returns-in-Folder : goal.returns-in-Folder
returns-in-Folder g c = λ words name asks origin.
    c.answer_folder.ensures words name (end_by g.I.Source.left g.I.Source.faults c.args.input.now) asks
    (origin ∙ ap origin_view c.in-Folder.is ∙ ap folder (sym c.as_str-in-Folder.ensures.value))
