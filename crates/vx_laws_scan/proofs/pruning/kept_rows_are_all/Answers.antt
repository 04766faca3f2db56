use Rattle.vx_laws_scan.proofs.Keeping.{kept_rows_are_all}
use Rattle.vx_laws_scan.proofs.pruning.kept_rows_are_all.Goals as goal

pub returns : goal.returns
returns c = kept_rows_are_all
