use Rattle.vx_query.proofs.CauseLemmas.{reported_as_told}
use Rattle.vx_query.proofs.causes.reports_are_of_the_request.Goals as goal

pub returns-clause-written : goal.returns-clause-written
returns-clause-written c = λ chosen i i' o o' used told run. (reported_as_told c.wire_laws.ensures chosen i i' o o' used told run).0

pub returns-clause-held : goal.returns-clause-held
returns-clause-held c = λ chosen i i' o o' used told run. (reported_as_told c.wire_laws.ensures chosen i i' o o' used told run).1
