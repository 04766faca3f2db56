use Rattle.std.proofs.Common.{◌≡◌, map, take}
use Rattle.vx_passes.specs.Merging.{giving_names}
use Rattle.vx_transform.specs.CodeViews.{giving_view}
use Rattle.vx_transform.proofs.merges.names_in_each.Given as goal

-- the names of the structs so far
abbrev pub invariant-loop-giving : goal.invariant-loop-giving
invariant-loop-giving l = l.names.items ≡ map giving_names (map giving_view (take l.giving-index l.given))
