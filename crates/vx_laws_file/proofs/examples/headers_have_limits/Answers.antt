use Rattle.vx_laws_file.proofs.SampleLemmas as samples
use Rattle.vx_laws_file.proofs.examples.headers_have_limits.Goals as goal

pub returns-clause-most_rows : goal.returns-clause-most_rows
returns-clause-most_rows c = samples.most_rows_fit

pub returns-clause-more_rows : goal.returns-clause-more_rows
returns-clause-more_rows c = samples.more_rows_are_refused

pub returns-clause-deepest : goal.returns-clause-deepest
returns-clause-deepest c = samples.deepest_type_fits

pub returns-clause-deeper : goal.returns-clause-deeper
returns-clause-deeper c = samples.deeper_type_is_refused
