use Rattle.vx_laws_csv.proofs.Whole.{tables_hold_the_cells, tables_are_whole}
use Rattle.vx_laws_csv.proofs.laws.tables_hold_the_cells.Goals as goal

pub returns : goal.returns
returns c = record { cells = tables_hold_the_cells; whole = tables_are_whole }
