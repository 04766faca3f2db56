use Rattle.vx_laws_shell.proofs.KeyedRuns.{keyed_runs_write_answers}
use Rattle.vx_laws_shell.proofs.OrderedRuns.{ordered_runs_write_answers}
use Rattle.vx_laws_shell.proofs.laws.runs_write_answers.Goals as goal

pub returns : goal.returns
returns c = record { ordered = ordered_runs_write_answers; keyed = keyed_runs_write_answers }
