use Rattle.std.proofs.Common.{◌∙◌, ap, sym, subst}
use Rattle.vx_folder.specs.PathViews.{paths_by}
use Rattle.vx_laws_shell.specs.Origins.{Origin, block_file, folder}
use Rattle.vx_laws_shell.specs.Running.{end_by}
use Rattle.vx_laws_explaining.specs.Explaining.{AskOrigin}
use Rattle.vx_explaining.specs.ExplainedViews.{asked_view}
use Rattle.vx_explaining.specs.OriginViews.{origin_view}
use Rattle.vx_explaining.proofs.running.explain_origin.Goals as goal

pub returns-in-StandardInput : goal.returns-in-StandardInput
returns-in-StandardInput g c = λ words asks.
    c.explain_input.ensures words (paths_by (g.F.Files.kept c.args.files.now) (g.F.Files.listed c.args.files.now))
    (subst (λ (o : Origin). AskOrigin words (asked_view c.args.asked) o) (ap origin_view c.in-StandardInput.is) asks)

pub returns-in-BlockFile : goal.returns-in-BlockFile
returns-in-BlockFile g c = λ words asks.
    c.explain_file.ensures words (end_by g.I.Source.left g.I.Source.faults c.args.input.now)
    (subst (λ (o : Origin). AskOrigin words (asked_view c.args.asked) o) (ap origin_view c.in-BlockFile.is ∙ ap block_file (sym c.as_str.ensures.value)) asks)

pub returns-in-Folder : goal.returns-in-Folder
returns-in-Folder g c = λ words asks.
    c.explain_folder.ensures words (end_by g.I.Source.left g.I.Source.faults c.args.input.now)
    (subst (λ (o : Origin). AskOrigin words (asked_view c.args.asked) o) (ap origin_view c.in-Folder.is ∙ ap folder (sym c.as_str-in-Folder.ensures.value)) asks)
