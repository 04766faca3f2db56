use Rattle.vx_laws_file.proofs.RangeLemmas as lemmas
use Rattle.vx_laws_file.proofs.damage.range_values_are_spelled.Goals as goal

pub returns-clause-spelled : goal.returns-clause-spelled
returns-clause-spelled c = lemmas.values_spelled

pub returns-clause-read : goal.returns-clause-read
returns-clause-read c = lemmas.values_read
