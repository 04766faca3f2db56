-- The bounds so far.
use Rattle.std.proofs.Common.{◌≡◌, map, take}
use Rattle.std.specs.String.{string_bytes}
use Rattle.vx_laws_explaining.specs.ExplainedJson.{bound_json}
use Rattle.vx_explaining.specs.ExplainedViews.{decider_view}
use Rattle.vx_explaining.proofs.json.bounds_json.Given as goal

abbrev pub invariant-loop-decider : goal.invariant-loop-decider
invariant-loop-decider l = map string_bytes l.bounds.items ≡ map (bound_json l.fn.block) (map decider_view (take l.decider-index l.fn.deciders))
