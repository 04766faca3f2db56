-- Those of the statistics so far that are required.
use Rattle.std.proofs.Common.{◌≡◌, map, take}
use Rattle.std.specs.List.{filter}
use Rattle.vx_prune.specs.Required.{is_required}
use Rattle.vx_laws_stats.specs.BuiltLaws.{path_and_stat}
use Rattle.vx_calls.specs.Steps.{needed_view}
use Rattle.vx_calls.proofs.statistics.required_among.Given as goal

abbrev pub invariant-loop-statistic : goal.invariant-loop-statistic
invariant-loop-statistic l =
    map needed_view l.needed.items ≡ filter (is_required l.fn.required) (map path_and_stat (take l.statistic-index l.fn.statistics))
