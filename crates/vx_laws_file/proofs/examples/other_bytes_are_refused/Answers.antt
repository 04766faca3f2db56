use Rattle.vx_laws_file.proofs.SampleLemmas as samples
use Rattle.vx_laws_file.proofs.examples.other_bytes_are_refused.Goals as goal

pub returns-clause-mark : goal.returns-clause-mark
returns-clause-mark c = samples.mark_is_missing

pub returns-clause-end : goal.returns-clause-end
returns-clause-end c = samples.end_is_missing

pub returns-clause-zones : goal.returns-clause-zones
returns-clause-zones c = samples.name_is_doubled

pub returns-clause-header : goal.returns-clause-header
returns-clause-header c = samples.header_is_missing
