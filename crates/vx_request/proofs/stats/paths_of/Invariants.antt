use Rattle.std.proofs.Common.{◌≡◌, map, take}
use Rattle.vx_request.specs.RequestViews.{stat_view}
use Rattle.vx_request.proofs.stats.paths_of.Given as goal

-- the paths so far
abbrev pub invariant-loop-stat : goal.invariant-loop-stat
invariant-loop-stat l = l.paths.items ≡ map (λ s. s.path) (map stat_view (take l.stat-index l.fn.stats))
