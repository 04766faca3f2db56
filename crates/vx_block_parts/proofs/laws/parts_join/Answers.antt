use Rattle.vx_block_parts.proofs.JoinLemmas.{parts_cut, parts_join}
use Rattle.vx_block_parts.proofs.laws.parts_join.Goals as goal

pub returns-clause-cut : goal.returns-clause-cut
returns-clause-cut c = parts_cut

pub returns-clause-rows : goal.returns-clause-rows
returns-clause-rows c = parts_join
