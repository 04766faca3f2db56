use Rattle.vx_query.proofs.GeneratedEnds.{generated_end, generated_reads_asked}
use Rattle.vx_query.proofs.generated_causes.generated_scans_are_summed.Goals as goal

pub returns-clause-ends : goal.returns-clause-ends
returns-clause-ends c = generated_end

pub returns-clause-holds : goal.returns-clause-holds
returns-clause-holds c = generated_reads_asked c.kept_numbers_are_kept_blocks.ensures
