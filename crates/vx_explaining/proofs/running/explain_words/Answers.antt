use Rattle.std.proofs.Common.{sym, map}
use Rattle.std.specs.String.{string_bytes}
use Rattle.vx_folder.specs.PathViews.{paths_by}
use Rattle.vx_laws_shell.specs.Running.{end_by}
use Rattle.vx_explaining.proofs.RunLemmas.{misused_answer}
use Rattle.vx_explaining.proofs.running.explain_words.Goals as goal

pub returns-in-Some : goal.returns-in-Some
returns-in-Some g c = c.explain_asked.ensures (map string_bytes c.args.words.now) (sym c.in-Some.ensures)

pub returns-in-None : goal.returns-in-None
returns-in-None g c =
    misused_answer (map string_bytes c.args.words.now) (paths_by (g.F.Files.kept c.args.files.now) (g.F.Files.listed c.args.files.now))
    (end_by g.I.Source.left g.I.Source.faults c.args.input.now)
    (end_by g.O.Sink.written g.O.Sink.faults c.args.output.now) (sym c.in-None.ensures)
