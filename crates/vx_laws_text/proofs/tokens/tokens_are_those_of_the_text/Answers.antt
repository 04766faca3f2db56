use Rattle.vx_laws_text.proofs.CutOrNot.{found_are_cut, cut_are_found}
use Rattle.vx_laws_text.proofs.tokens.tokens_are_those_of_the_text.Goals as goal

pub returns : goal.returns
returns c = record { found = found_are_cut; cut = cut_are_found }
