use Rattle.vx_query.proofs.FormLemmas.{broken_scans, scans_hold, others_take_nothing}
use Rattle.vx_query.proofs.form_causes.scans_alone_break_and_hold.Goals as goal

pub returns-clause-breaks : goal.returns-clause-breaks
returns-clause-breaks c = broken_scans

pub returns-clause-holds : goal.returns-clause-holds
returns-clause-holds c = scans_hold

pub returns-clause-takes : goal.returns-clause-takes
returns-clause-takes c = others_take_nothing
