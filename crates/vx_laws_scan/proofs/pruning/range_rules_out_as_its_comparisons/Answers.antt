use Rattle.vx_laws_scan.proofs.Comparisons.{range_rules_out}
use Rattle.vx_laws_scan.proofs.pruning.range_rules_out_as_its_comparisons.Goals as goal

pub returns : goal.returns
returns c = range_rules_out
