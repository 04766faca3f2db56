use Rattle.vx_query.proofs.CauseLemmas.{reported}
use Rattle.vx_query.proofs.causes.reports_are_typed.Goals as goal

pub returns : goal.returns
returns c = reported
