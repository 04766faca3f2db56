use Rattle.std.proofs.Common.{◌≡◌, ◌++◌, take}
use Rattle.vx_partition.proofs.numbered.push_clones.Given as goal

-- the list with the clones so far
abbrev pub invariant-loop-annotation : goal.invariant-loop-annotation
invariant-loop-annotation g l = l.list.items ≡ l.fn.list.items ++ take l.annotation-index l.more
