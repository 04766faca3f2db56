use Rattle.vx_scan.proofs.LawLemmas.{reports_so, refusals_so, one_refusal_so, breaks_so, text_reports_so, text_refusals_so}
use Rattle.vx_scan.proofs.laws.scan_ends_exclude.Goals as goal

pub returns-clause-reports : goal.returns-clause-reports
returns-clause-reports c = reports_so

pub returns-clause-refusals : goal.returns-clause-refusals
returns-clause-refusals c = refusals_so

pub returns-clause-one_refusal : goal.returns-clause-one_refusal
returns-clause-one_refusal c = one_refusal_so

pub returns-clause-breaks : goal.returns-clause-breaks
returns-clause-breaks c = breaks_so

pub returns-clause-text_reports : goal.returns-clause-text_reports
returns-clause-text_reports c = text_reports_so

pub returns-clause-text_refusals : goal.returns-clause-text_refusals
returns-clause-text_refusals c = text_refusals_so
