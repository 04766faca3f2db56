use Rattle.vx_laws_file.proofs.WrittenLemmas as lemmas
use Rattle.vx_laws_file.proofs.writing.files_are_short.Goals as goal

pub returns : goal.returns
returns c = lemmas.files_are_short
