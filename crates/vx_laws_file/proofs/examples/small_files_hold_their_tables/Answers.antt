use Rattle.vx_laws_file.proofs.SampleLemmas as samples
use Rattle.vx_laws_file.proofs.examples.small_files_hold_their_tables.Goals as goal

pub returns-clause-first_has_file : goal.returns-clause-first_has_file
returns-clause-first_has_file c = samples.first_has_file

pub returns-clause-first_is_opened : goal.returns-clause-first_is_opened
returns-clause-first_is_opened c = samples.first_is_opened

pub returns-clause-kinds_have_file : goal.returns-clause-kinds_have_file
returns-clause-kinds_have_file c = samples.kinds_have_file

pub returns-clause-kinds_are_opened : goal.returns-clause-kinds_are_opened
returns-clause-kinds_are_opened c = samples.kinds_are_opened

pub returns-clause-kinds_are_held : goal.returns-clause-kinds_are_held
returns-clause-kinds_are_held c = samples.kinds_are_held
