use Rattle.std.proofs.Common.{◌≡◌, map, take}
use Rattle.vx_partition.specs.Views.{partition_view}
use Rattle.vx_partition.proofs.splitting.names_of.Given as goal

abbrev pub invariant-loop-partition : goal.invariant-loop-partition
invariant-loop-partition g l = l.names.items ≡ map (λ p. g.A.Annotation.text p.annotation) (map partition_view (take l.partition-index l.partitions))
