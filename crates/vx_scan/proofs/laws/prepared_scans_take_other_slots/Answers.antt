use Rattle.vx_scan.proofs.PrepareLemmas.{other_slots}
use Rattle.vx_scan.proofs.laws.prepared_scans_take_other_slots.Goals as goal

pub returns : goal.returns
returns c = other_slots
