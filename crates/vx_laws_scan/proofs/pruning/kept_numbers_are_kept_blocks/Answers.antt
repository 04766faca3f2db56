use Rattle.vx_laws_scan.proofs.Keeping.{kept_numbers}
use Rattle.vx_laws_scan.proofs.pruning.kept_numbers_are_kept_blocks.Goals as goal

pub returns : goal.returns
returns c = kept_numbers
