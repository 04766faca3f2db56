use Rattle.vx_laws_file.proofs.HeldLemmas as lemmas
use Rattle.vx_laws_file.proofs.damage.read_is_not_damaged.Goals as goal

pub returns-clause-one : goal.returns-clause-one
returns-clause-one c = lemmas.read_as_one

pub returns-clause-damaged : goal.returns-clause-damaged
returns-clause-damaged c = lemmas.read_is_not_damaged
