use Rattle.std.proofs.Common.{◌≡◌, [], ◌∷◌, ◌++◌, vec_len}
use Rattle.vx_build.specs.Collectors.{joined_right}
use Rattle.vx_build.proofs.collectors.join_right.Given as goal

abbrev pub invariant-loop-next : goal.invariant-loop-next
invariant-loop-next l = joined_right l.operator l.fn.values.items ≡ joined_right l.operator (l.values.items ++ l.joined ∷ [])

abbrev pub decreases-loop-next : goal.decreases-loop-next
decreases-loop-next l = vec_len l.values
