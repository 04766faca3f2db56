use Rattle.vx_laws_topk.proofs.OneMore as onemore
use Rattle.vx_laws_topk.proofs.bounding.further_blocks_follow.Goals as goal

pub returns-clause-found : goal.returns-clause-found
returns-clause-found c = onemore.found_over_more

pub returns-clause-phases : goal.returns-clause-phases
returns-clause-phases c = onemore.phases_over_more

pub returns-clause-skipped : goal.returns-clause-skipped
returns-clause-skipped c = onemore.skipped_over_more
