use Rattle.vx_query.proofs.CauseLemmas.{unasked, unspelled}
use Rattle.vx_query.proofs.causes.statuses_have_their_causes.Goals as goal

pub returns-clause-refused : goal.returns-clause-refused
returns-clause-refused c = unasked

pub returns-clause-unscanned : goal.returns-clause-unscanned
returns-clause-unscanned c = unspelled
