use Rattle.vx_cutting.proofs.PartLemmas.{parts_are_the_table}
use Rattle.vx_cutting.proofs.laws.parts_are_the_table.Goals as goal

pub returns : goal.returns
returns c = parts_are_the_table
