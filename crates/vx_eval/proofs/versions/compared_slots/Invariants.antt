use Rattle.std.proofs.Common.{◌≡◌, ◌++◌, map, length}
use Rattle.std.specs.List.{flat_map}
use Rattle.vx_eval.specs.Versions.{own_slots, compared_slots}
use Rattle.vx_eval.proofs.VersionLemmas.{nodes_left}
use Rattle.vx_eval.proofs.versions.compared_slots.Given as goal

-- the numbers so far, and those of the nodes that are left
abbrev pub invariant-loop-node : goal.invariant-loop-node
invariant-loop-node l = l.numbers.items ++ flat_map own_slots (nodes_left (map (λ e. e.now) l.left.items)) ≡ compared_slots l.expr

abbrev pub decreases-loop-node : goal.decreases-loop-node
decreases-loop-node l = length (nodes_left (map (λ e. e.now) l.left.items))
