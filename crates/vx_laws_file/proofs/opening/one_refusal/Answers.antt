use Rattle.vx_laws_file.proofs.Openings as lemmas
use Rattle.vx_laws_file.proofs.HeaderReaders as readers
use Rattle.vx_laws_file.proofs.opening.one_refusal.Goals as goal

pub returns-clause-one : goal.returns-clause-one
returns-clause-one c = lemmas.one_refusal

pub returns-clause-opened : goal.returns-clause-opened
returns-clause-opened c = lemmas.opened_is_not_refused

pub returns-clause-computed : goal.returns-clause-computed
returns-clause-computed c = readers.answer_is_computed
