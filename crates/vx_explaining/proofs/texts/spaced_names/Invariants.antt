-- The names so far, each behind a space.
use Rattle.std.proofs.Common.{◌≡◌, ◌++◌, codes, map, take}
use Rattle.std.specs.List.{flat_map}
use Rattle.std.specs.String.{string_bytes}
use Rattle.vx_explaining.specs.ExplainedViews.{decider_view}
use Rattle.vx_explaining.proofs.texts.spaced_names.Given as goal

abbrev pub invariant-loop-decider : goal.invariant-loop-decider
invariant-loop-decider l =
    string_bytes l.names ≡ flat_map (λ x. codes " " ++ x.name) (map decider_view (take l.decider-index l.fn.deciders))
