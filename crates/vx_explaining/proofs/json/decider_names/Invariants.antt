-- The names so far.
use Rattle.std.proofs.Common.{◌≡◌, map, take}
use Rattle.std.specs.String.{string_bytes}
use Rattle.vx_explaining.specs.ExplainedViews.{decider_view}
use Rattle.vx_explaining.proofs.json.decider_names.Given as goal

abbrev pub invariant-loop-decider : goal.invariant-loop-decider
invariant-loop-decider l = map string_bytes l.names.items ≡ map (λ d. d.name) (map decider_view (take l.decider-index l.fn.deciders))
