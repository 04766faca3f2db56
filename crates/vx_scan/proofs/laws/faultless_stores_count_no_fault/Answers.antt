use Rattle.vx_scan.proofs.LawLemmas.{faultless_so}
use Rattle.vx_scan.proofs.laws.faultless_stores_count_no_fault.Goals as goal

pub returns : goal.returns
returns c = faultless_so
