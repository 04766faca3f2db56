use Rattle.vx_query.proofs.EndLemmas.{source_unread, risen_unread}
use Rattle.vx_query.proofs.causes.read_faults_are_counted.Goals as goal

pub returns-clause-only : goal.returns-clause-only
returns-clause-only c = source_unread

pub returns-clause-always : goal.returns-clause-always
returns-clause-always c = risen_unread
