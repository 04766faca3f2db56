use Rattle.vx_query.proofs.BlockAgreementLemmas.{agree_in}
use Rattle.vx_query.proofs.block_agreement.requested_blocks_agree.Goals as goal

pub returns : goal.returns
returns c = agree_in
