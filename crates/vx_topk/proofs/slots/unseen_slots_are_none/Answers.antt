use Rattle.vx_topk.proofs.SlotLemmas.{unseen_slots}
use Rattle.vx_topk.proofs.slots.unseen_slots_are_none.Goals as goal

pub returns : goal.returns
returns c = unseen_slots
