use Rattle.std.proofs.Common.{◌≡◌, map, take}
use Rattle.vx_request.specs.RequestViews.{name_view}
use Rattle.vx_request.proofs.stats.path_of.Given as goal

-- the path so far is that of the names so far
abbrev pub invariant-loop-name : goal.invariant-loop-name
invariant-loop-name l = l.path.items ≡ map name_view (take l.name-index l.fn.names)
