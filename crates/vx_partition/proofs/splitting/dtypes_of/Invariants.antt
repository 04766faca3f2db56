use Rattle.std.proofs.Common.{◌≡◌, map, take}
use Rattle.vx_dtype.specs.TypeViews.{type_view}
use Rattle.vx_partition.specs.Views.{partition_view}
use Rattle.vx_partition.proofs.splitting.dtypes_of.Given as goal

abbrev pub invariant-loop-partition : goal.invariant-loop-partition
invariant-loop-partition g l = map type_view l.dtypes.items ≡ map (λ p. p.ty) (map partition_view (take l.partition-index l.partitions))
