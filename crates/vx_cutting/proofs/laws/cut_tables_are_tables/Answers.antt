use Rattle.vx_cutting.proofs.CutLaws.{cut_tables_are_tables}
use Rattle.vx_cutting.proofs.laws.cut_tables_are_tables.Goals as goal

pub returns : goal.returns
returns c = cut_tables_are_tables
