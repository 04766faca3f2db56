use Rattle.vx_file_scan.proofs.FailureLemmas.{left_at_failure}
use Rattle.vx_file_scan.proofs.laws.files_are_left_at_failures.Goals as goal

pub returns : goal.returns
returns c = left_at_failure
