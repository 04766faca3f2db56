use Rattle.vx_laws_shell.proofs.Answered.{limits_give_first_rows, honest_limits_give_first_rows}
use Rattle.vx_laws_shell.proofs.laws.limits_give_first_rows.Goals as goal

pub returns : goal.returns
returns c = record { kept = limits_give_first_rows; honest = honest_limits_give_first_rows }
