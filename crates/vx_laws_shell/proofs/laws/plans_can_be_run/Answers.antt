use Rattle.vx_laws_shell.proofs.PlainKeys.{plan_keys_are_plain}
use Rattle.vx_laws_shell.proofs.SlotlessPlans.{plans_have_no_slot}
use Rattle.vx_laws_shell.proofs.laws.plans_can_be_run.Goals as goal

pub returns : goal.returns
returns c = record { slots = plans_have_no_slot; keys = plan_keys_are_plain }
