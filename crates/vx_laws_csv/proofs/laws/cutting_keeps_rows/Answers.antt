use Rattle.vx_laws_csv.proofs.Cutting.{cutting_keeps_rows, parts_are_full}
use Rattle.vx_laws_csv.proofs.laws.cutting_keeps_rows.Goals as goal

pub returns : goal.returns
returns c = record { rows = cutting_keeps_rows; full = parts_are_full }
