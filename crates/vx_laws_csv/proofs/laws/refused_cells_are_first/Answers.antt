use Rattle.vx_laws_csv.proofs.FirstBad.{refused_cells_are_first, unrefused_cells_are_taken}
use Rattle.vx_laws_csv.proofs.laws.refused_cells_are_first.Goals as goal

pub returns : goal.returns
returns c = record { first = refused_cells_are_first; none = unrefused_cells_are_taken }
