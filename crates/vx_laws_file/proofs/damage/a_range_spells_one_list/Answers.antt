use Rattle.vx_laws_file.proofs.RangeLemmas as lemmas
use Rattle.vx_laws_file.proofs.damage.a_range_spells_one_list.Goals as goal

pub returns : goal.returns
returns c = lemmas.one_range
