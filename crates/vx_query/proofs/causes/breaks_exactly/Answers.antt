use Rattle.vx_query.proofs.CauseLemmas.{stopped, told_break, says_break}
use Rattle.vx_query.proofs.causes.breaks_exactly.Goals as goal

pub returns-clause-only : goal.returns-clause-only
returns-clause-only c = stopped

pub returns-clause-told : goal.returns-clause-told
returns-clause-told c = told_break

pub returns-clause-always : goal.returns-clause-always
returns-clause-always c = says_break c.wire_laws.ensures
