use Rattle.vx_block_parts.proofs.LawLemmas.{honest_so}
use Rattle.vx_block_parts.proofs.laws.honest_parts_are_honest.Goals as goal

pub returns : goal.returns
returns c = honest_so
