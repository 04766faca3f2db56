use Rattle.vx_scan.proofs.CutLemmas.{scans_of_runs}
use Rattle.vx_scan.proofs.laws.scans_of_runs.Goals as goal

pub returns : goal.returns
returns c = scans_of_runs
