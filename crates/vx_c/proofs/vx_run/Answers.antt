use Rattle.vx_calls.specs.Answers.{answer_told}
use Rattle.vx_c.proofs.vx_run.Goals as goal

pub returns : goal.returns
returns c = record { told = answer_told c.told_run-told.result; is_told = c.told_run-told.ensures; given = c.give.ensures }
