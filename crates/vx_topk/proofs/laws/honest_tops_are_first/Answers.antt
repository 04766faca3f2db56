use Rattle.vx_topk.proofs.TopLawLemmas.{honest_tops}
use Rattle.vx_topk.proofs.laws.honest_tops_are_first.Goals as goal

pub returns : goal.returns
returns c = honest_tops
