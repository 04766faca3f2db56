use Rattle.vx_laws_csv.proofs.AllRecords.{these_are_all_records}
use Rattle.vx_laws_csv.proofs.laws.these_are_all_records.Goals as goal

pub returns : goal.returns
returns c = these_are_all_records
