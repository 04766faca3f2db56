use Rattle.std.proofs.Common.{◌≡◌, map, take}
use Rattle.vx_partition.specs.Views.{partition_view}
use Rattle.vx_partition.proofs.splitting.exprs_of.Given as goal

abbrev pub invariant-loop-partition : goal.invariant-loop-partition
invariant-loop-partition g l = l.exprs.items ≡ map (λ p. p.expression) (map partition_view (take l.partition-index l.partitions))
