use Rattle.vx_topk.proofs.RuledRunLemmas.{none-told}
use Rattle.vx_topk.proofs.ruled_runs.RuledRun.none.Goals as goal

pub returns : goal.returns
returns c says = none-told says 0 c.new.result.items c.new.ensures.items
