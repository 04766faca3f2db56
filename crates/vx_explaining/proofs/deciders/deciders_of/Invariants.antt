-- Those of the statistics so far that are required.
use Rattle.std.proofs.Common.{◌≡◌, map, take}
use Rattle.std.specs.List.{filter}
use Rattle.vx_prune.specs.Required.{is_required}
use Rattle.vx_laws_explaining.specs.Explained.{decider}
use Rattle.vx_explaining.specs.ExplainedViews.{decider_view}
use Rattle.vx_explaining.proofs.deciders.deciders_of.Given as goal

abbrev pub invariant-loop-statistic : goal.invariant-loop-statistic
invariant-loop-statistic l =
    map decider_view l.deciders.items
    ≡ map decider (filter (λ z. is_required l.fn.required (z.path, z.stat)) (take l.statistic-index l.fn.statistics))
