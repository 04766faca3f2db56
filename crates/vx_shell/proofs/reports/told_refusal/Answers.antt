use Rattle.vx_shell.proofs.FileRuns.{told_same}
use Rattle.vx_shell.proofs.reports.told_refusal.Goals as goal

pub returns-in_default : goal.returns-in_default
returns-in_default c = λ damaged first. told_same damaged c.args.refusal c.in_default.not-StoreFault
