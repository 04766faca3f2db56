use Rattle.vx_query.proofs.ReadLemmas.{asked_alone}
use Rattle.vx_query.proofs.causes.reads_are_asked.Goals as goal

pub returns : goal.returns
returns c = asked_alone c.kept_numbers_are_kept_blocks.ensures
