use Rattle.vx_laws_file.proofs.WrittenLemmas as lemmas
use Rattle.vx_laws_file.proofs.writing.one_table.Goals as goal

pub returns : goal.returns
returns c = lemmas.one_table
