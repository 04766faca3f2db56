use Rattle.std.proofs.Common.{◌≡◌, take}
use Rattle.vx_partition.proofs.partitions.shared.Given as goal

abbrev pub invariant-loop-expr : goal.invariant-loop-expr
invariant-loop-expr l = l.shared.items ≡ take l.expr-index l.exprs
