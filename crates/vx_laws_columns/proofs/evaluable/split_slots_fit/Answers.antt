use Rattle.vx_laws_columns.proofs.PartSlots.{split_slots_fit}
use Rattle.vx_laws_columns.proofs.evaluable.split_slots_fit.Goals as goal

pub returns : goal.returns
returns c = split_slots_fit
