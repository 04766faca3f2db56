use Rattle.vx_laws_writing.proofs.CutTables.{blocks_cut_are_cut_anew}
use Rattle.vx_laws_writing.proofs.laws.blocks_cut_are_cut_anew.Goals as goal

pub returns : goal.returns
returns c = blocks_cut_are_cut_anew
