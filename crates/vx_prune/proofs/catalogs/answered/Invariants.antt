use Rattle.std.proofs.Common.{◌≡◌}
use Rattle.std.specs.List.{filter}
use Rattle.vx_passes.specs.Catalogs.{is_alone_among}
use Rattle.vx_semantics.specs.Tables.{statistic_path}
use Rattle.vx_prune.proofs.catalogs.answered.Given as goal

-- the available statistics so far, of the same paths
abbrev pub invariant-loop-path : goal.invariant-loop-path
invariant-loop-path l =
    (l.available ≡ l.fn.available) × (l.kept.items ≡ filter (λ q. is_alone_among l.fn.available (statistic_path q.0 q.1)) l.yielded)
