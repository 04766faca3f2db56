use Rattle.vx_laws_file.proofs.Openings as lemmas
use Rattle.vx_laws_file.proofs.opening.no_file_begins_another.Goals as goal

pub returns-clause-header : goal.returns-clause-header
returns-clause-header c = lemmas.one_header

pub returns-clause-content : goal.returns-clause-content
returns-clause-content c = lemmas.one_content

pub returns-clause-prefix : goal.returns-clause-prefix
returns-clause-prefix c = lemmas.no_file_begins_another
