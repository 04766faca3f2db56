use Rattle.vx_topk.proofs.TopLawLemmas.{refused_tops, first_refusals}
use Rattle.vx_topk.proofs.laws.refused_tops_refuse.Goals as goal

pub returns-clause-refused : goal.returns-clause-refused
returns-clause-refused c = refused_tops

pub returns-clause-first : goal.returns-clause-first
returns-clause-first c = first_refusals
