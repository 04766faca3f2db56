use Rattle.vx_laws_file.proofs.Openings as lemmas
use Rattle.vx_laws_file.proofs.opening.refused_zones_have_doubles.Goals as goal

pub returns : goal.returns
returns c = lemmas.refused_zones_have_doubles
