use Rattle.vx_laws_shell.proofs.Answered.{runs_are_scans}
use Rattle.vx_laws_shell.proofs.laws.runs_are_scans.Goals as goal

pub returns : goal.returns
returns c = runs_are_scans
