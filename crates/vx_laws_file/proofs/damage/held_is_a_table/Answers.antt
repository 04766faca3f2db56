use Rattle.vx_laws_file.proofs.HeldLemmas as lemmas
use Rattle.vx_laws_file.proofs.damage.held_is_a_table.Goals as goal

pub returns : goal.returns
returns c = lemmas.held_is_table
