use Rattle.vx_scan.proofs.LawLemmas.{unbroken_so, unbroken_texts_so}
use Rattle.vx_scan.proofs.laws.unbroken_scans_report.Goals as goal

pub returns-clause-exprs : goal.returns-clause-exprs
returns-clause-exprs c = unbroken_so

pub returns-clause-texts : goal.returns-clause-texts
returns-clause-texts c = unbroken_texts_so
