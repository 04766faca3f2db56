use Rattle.vx_cutting.proofs.CutLaws.{cutting_keeps_rows}
use Rattle.vx_cutting.proofs.laws.cutting_keeps_rows.Goals as goal

pub returns : goal.returns
returns c = cutting_keeps_rows
