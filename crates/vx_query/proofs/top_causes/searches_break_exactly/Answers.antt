use Rattle.vx_query.proofs.TopCauseLemmas.{search_stopped, told_search_break, says_search_break}
use Rattle.vx_query.proofs.top_causes.searches_break_exactly.Goals as goal

pub returns-clause-only : goal.returns-clause-only
returns-clause-only c = search_stopped

pub returns-clause-told : goal.returns-clause-told
returns-clause-told c = told_search_break

pub returns-clause-always : goal.returns-clause-always
returns-clause-always c = says_search_break c.wire_laws.ensures
