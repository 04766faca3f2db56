use Rattle.vx_file_scan.proofs.LawLemmas.{honest_so}
use Rattle.vx_file_scan.proofs.laws.honest_file_scans_are_whole.Goals as goal

pub returns : goal.returns
returns c = honest_so
