use Rattle.vx_file_scan.proofs.LawLemmas.{reports_so, breaks_so}
use Rattle.vx_file_scan.proofs.laws.undamaged_scans_end_by_their_phases.Goals as goal

pub returns-clause-reports : goal.returns-clause-reports
returns-clause-reports c = reports_so

pub returns-clause-breaks : goal.returns-clause-breaks
returns-clause-breaks c = breaks_so
