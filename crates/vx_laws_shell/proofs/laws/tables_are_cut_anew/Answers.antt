use Rattle.vx_laws_shell.proofs.CutAnew.{tables_are_cut_anew}
use Rattle.vx_laws_shell.proofs.laws.tables_are_cut_anew.Goals as goal

pub returns : goal.returns
returns c = tables_are_cut_anew
