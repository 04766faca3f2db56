-- The bounds so far.
use Rattle.std.proofs.Common.{◌≡◌, map, take}
use Rattle.std.specs.List.{flat_map}
use Rattle.std.specs.String.{string_bytes}
use Rattle.vx_laws_explaining.specs.ExplainedTexts.{bound_shown}
use Rattle.vx_explaining.specs.ExplainedViews.{decider_view}
use Rattle.vx_explaining.proofs.texts.bounds_shown.Given as goal

abbrev pub invariant-loop-decider : goal.invariant-loop-decider
invariant-loop-decider l = string_bytes l.bounds ≡ flat_map (bound_shown l.fn.block) (map decider_view (take l.decider-index l.fn.deciders))
