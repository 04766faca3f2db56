use Rattle.vx_query.proofs.EndLemmas.{sink_cut}
use Rattle.vx_query.proofs.causes.write_faults_are_counted.Goals as goal

pub returns : goal.returns
returns c = sink_cut
