use Rattle.vx_block_parts.proofs.LawLemmas.{reads_so, fails_so}
use Rattle.vx_block_parts.proofs.laws.parts_read_their_blocks.Goals as goal

pub returns-clause-reads : goal.returns-clause-reads
returns-clause-reads c = reads_so

pub returns-clause-failed : goal.returns-clause-failed
returns-clause-failed c = fails_so
