use Rattle.vx_laws_file.proofs.WholeLemmas as lemmas
use Rattle.vx_laws_file.proofs.damage.whole_is_a_file.Goals as goal

pub returns : goal.returns
returns c = lemmas.whole_is_file
