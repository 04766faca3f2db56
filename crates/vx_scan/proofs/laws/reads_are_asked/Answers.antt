use Rattle.vx_scan.proofs.AskedLemmas.{reads_are_asked, reads_are_distinct}
use Rattle.vx_scan.proofs.laws.reads_are_asked.Goals as goal

pub returns-clause-asked : goal.returns-clause-asked
returns-clause-asked c = reads_are_asked

pub returns-clause-distinct : goal.returns-clause-distinct
returns-clause-distinct c = reads_are_distinct
