use Rattle.vx_file_scan.proofs.TableScanLemmas.{scans_agree}
use Rattle.vx_file_scan.proofs.laws.scans_of_one_table_end_the_same.Goals as goal

pub returns : goal.returns
returns c = scans_agree
