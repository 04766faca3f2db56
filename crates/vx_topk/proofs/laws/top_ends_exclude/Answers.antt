use Rattle.vx_topk.proofs.TopLawLemmas.{reports_exclude, refusals_exclude, refusals_are_one, breaks_are_of_one_phase}
use Rattle.vx_topk.proofs.laws.top_ends_exclude.Goals as goal

pub returns-clause-reports : goal.returns-clause-reports
returns-clause-reports c = reports_exclude

pub returns-clause-refusals : goal.returns-clause-refusals
returns-clause-refusals c = refusals_exclude

pub returns-clause-one_refusal : goal.returns-clause-one_refusal
returns-clause-one_refusal c = refusals_are_one

pub returns-clause-breaks : goal.returns-clause-breaks
returns-clause-breaks c = breaks_are_of_one_phase
