use Rattle.vx_file_scan.proofs.LawLemmas.{faults_so, damage_so}
use Rattle.vx_file_scan.proofs.laws.damage_is_a_store_fault.Goals as goal

pub returns-clause-only : goal.returns-clause-only
returns-clause-only c = faults_so

pub returns-clause-wherever : goal.returns-clause-wherever
returns-clause-wherever c = damage_so
