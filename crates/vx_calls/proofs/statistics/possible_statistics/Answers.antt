use Rattle.std.proofs.Common.{[]}
use Rattle.vx_calls.proofs.StatisticLemmas.{built_so}
use Rattle.vx_calls.proofs.statistics.possible_statistics.Goals as goal

pub returns-in-Ok : goal.returns-in-Ok
returns-in-Ok c = built_so c.in_ok-empty.empty c.in-Ok.built [] c.args.zones.now.columns c.in-Ok.ensures c.in_ok-empty.ensures.columns
