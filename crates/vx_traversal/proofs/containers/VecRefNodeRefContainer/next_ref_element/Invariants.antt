use Rattle.std.proofs.Common.{◌≡◌, ◌-◌, map, drop, vec_len}
use Rattle.vx_traversal.specs.Containers.{left_of_each}
use Rattle.vx_traversal.proofs.containers.VecRefNodeRefContainer.next_ref_element.Given as goal

-- the containers that were passed are at their end
abbrev pub invariant-loop-cursor : goal.invariant-loop-cursor
invariant-loop-cursor g l =
    left_of_each g.C.NodeContainer.left g.C.Holds.elements l.cursor.inner (drop l.cursor.index (map (λ c. c.now) l.self.items))
    ≡ left_of_each g.C.NodeContainer.left g.C.Holds.elements l.fn.cursor.inner (drop l.fn.cursor.index (map (λ c. c.now) l.self.items))

abbrev pub decreases-loop-cursor : goal.decreases-loop-cursor
decreases-loop-cursor g l = vec_len l.self - l.cursor.index
