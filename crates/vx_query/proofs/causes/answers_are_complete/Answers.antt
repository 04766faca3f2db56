use Rattle.vx_query.proofs.CauseLemmas.{completed, explained_whole}
use Rattle.vx_query.proofs.WordLemmas.{was_shown_whole}
use Rattle.vx_query.proofs.QueryLemmas.{was_named_whole}
use Rattle.vx_query.proofs.GeneratedEnds.{was_summed_whole}
use Rattle.vx_query.proofs.causes.answers_are_complete.Goals as goal

pub returns-clause-scan : goal.returns-clause-scan
returns-clause-scan c = completed c.wire_laws.ensures

pub returns-clause-explain : goal.returns-clause-explain
returns-clause-explain c = explained_whole c.wire_laws.ensures

pub returns-clause-show : goal.returns-clause-show
returns-clause-show c = was_shown_whole

pub returns-clause-text : goal.returns-clause-text
returns-clause-text c = was_named_whole

pub returns-clause-generated : goal.returns-clause-generated
returns-clause-generated c = was_summed_whole
