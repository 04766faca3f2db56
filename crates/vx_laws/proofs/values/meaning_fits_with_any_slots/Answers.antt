use Rattle.vx_laws.proofs.AnySlots.{meaning_fits_with_any_slots}
use Rattle.vx_laws.proofs.values.meaning_fits_with_any_slots.Goals as goal

pub returns : goal.returns
returns c = meaning_fits_with_any_slots
