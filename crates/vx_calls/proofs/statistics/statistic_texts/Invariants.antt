-- The texts of the statistics so far.
use Rattle.std.proofs.Common.{◌≡◌, map, take}
use Rattle.std.specs.String.{string_bytes}
use Rattle.vx_calls.specs.Statistics.{statistic_json}
use Rattle.vx_calls.specs.Steps.{needed_view}
use Rattle.vx_calls.proofs.statistics.statistic_texts.Given as goal

abbrev pub invariant-loop-statistic : goal.invariant-loop-statistic
invariant-loop-statistic l = map string_bytes l.texts.items ≡ map statistic_json (map needed_view (take l.statistic-index l.fn.needed))
