use Rattle.vx_laws_file.proofs.WrittenLemmas as lemmas
use Rattle.vx_laws_file.proofs.writing.written_is_opened.Goals as goal

pub returns-clause-opened : goal.returns-clause-opened
returns-clause-opened c = lemmas.written_is_opened

pub returns-clause-held : goal.returns-clause-held
returns-clause-held c = lemmas.written_is_held

pub returns-clause-whole : goal.returns-clause-whole
returns-clause-whole c = lemmas.written_is_whole
