use Rattle.vx_laws_file.proofs.Openings as lemmas
use Rattle.vx_laws_file.proofs.opening.a_range_stands_at_its_place.Goals as goal

pub returns : goal.returns
returns c = lemmas.range_stands
