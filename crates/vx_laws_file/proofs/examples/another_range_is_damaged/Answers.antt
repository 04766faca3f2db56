use Rattle.vx_laws_file.proofs.SampleLemmas as samples
use Rattle.vx_laws_file.proofs.examples.another_range_is_damaged.Goals as goal

pub returns-clause-damaged : goal.returns-clause-damaged
returns-clause-damaged c = samples.range_is_damaged
