use Rattle.vx_scan.proofs.LawLemmas.{breaking_so, breaking_texts_so}
use Rattle.vx_scan.proofs.laws.scan_breaks_where_a_phase_breaks.Goals as goal

pub returns-clause-exprs : goal.returns-clause-exprs
returns-clause-exprs c = breaking_so

pub returns-clause-texts : goal.returns-clause-texts
returns-clause-texts c = breaking_texts_so
