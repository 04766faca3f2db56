use Rattle.vx_laws_file.proofs.Openings as lemmas
use Rattle.vx_laws_file.proofs.opening.header_and_end_open.Goals as goal

pub returns : goal.returns
returns c = lemmas.header_and_end_open
