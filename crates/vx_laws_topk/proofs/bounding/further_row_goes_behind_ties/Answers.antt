use Rattle.vx_laws_topk.proofs.OneMore as onemore
use Rattle.vx_laws_topk.proofs.bounding.further_row_goes_behind_ties.Goals as goal

pub returns-clause-order : goal.returns-clause-order
returns-clause-order c = onemore.further_row

pub returns-clause-first : goal.returns-clause-first
returns-clause-first c = onemore.further_among_first
