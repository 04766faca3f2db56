use Rattle.vx_query.proofs.TopCauseLemmas.{found_as_told}
use Rattle.vx_query.proofs.top_causes.first_rows_are_of_the_request.Goals as goal

pub returns-clause-written : goal.returns-clause-written
returns-clause-written c = λ i i' o o' used told run. (found_as_told c.wire_laws.ensures i i' o o' used told run).0

pub returns-clause-held : goal.returns-clause-held
returns-clause-held c = λ i i' o o' used told run. (found_as_told c.wire_laws.ensures i i' o o' used told run).1
