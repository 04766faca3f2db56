use Rattle.vx_laws_topk.proofs.Slotless as slotless
use Rattle.vx_laws_topk.proofs.SlotlessRules as slotlessrules
use Rattle.vx_laws_topk.proofs.bounding.slotless_is_the_same_with_any_slots.Goals as goal

pub returns-clause-means : goal.returns-clause-means
returns-clause-means c = slotless.slotless-means

pub returns-clause-fits : goal.returns-clause-fits
returns-clause-fits c = slotlessrules.slotless_fits

pub returns-clause-rules_out : goal.returns-clause-rules_out
returns-clause-rules_out c = slotlessrules.slotless_rules
