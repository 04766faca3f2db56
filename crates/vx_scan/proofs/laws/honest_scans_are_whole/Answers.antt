use Rattle.vx_scan.proofs.LawLemmas.{honest_so, honest_texts_so}
use Rattle.vx_scan.proofs.laws.honest_scans_are_whole.Goals as goal

pub returns-clause-exprs : goal.returns-clause-exprs
returns-clause-exprs c = honest_so

pub returns-clause-texts : goal.returns-clause-texts
returns-clause-texts c = honest_texts_so
