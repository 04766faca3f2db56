use Rattle.vx_laws_csv.proofs.CellFacts.{cells_are_of_their_type}
use Rattle.vx_laws_csv.proofs.laws.cells_are_of_their_type.Goals as goal

pub returns : goal.returns
returns c = cells_are_of_their_type
