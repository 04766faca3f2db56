use Rattle.vx_laws_file.proofs.HeldLemmas as held
use Rattle.vx_laws_file.proofs.RangeLemmas as ranges
use Rattle.vx_laws_file.proofs.damage.held_is_read.Goals as goal

pub returns-clause-pair : goal.returns-clause-pair
returns-clause-pair c = held.held_is_read

pub returns-clause-read : goal.returns-clause-read
returns-clause-read c = ranges.held_values_read

pub returns-clause-damaged : goal.returns-clause-damaged
returns-clause-damaged c = ranges.damaged_are_fillers
