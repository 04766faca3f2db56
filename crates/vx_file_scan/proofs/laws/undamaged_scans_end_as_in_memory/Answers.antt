use Rattle.vx_file_scan.proofs.LawLemmas.{as_in_memory}
use Rattle.vx_file_scan.proofs.laws.undamaged_scans_end_as_in_memory.Goals as goal

pub returns : goal.returns
returns c = as_in_memory
