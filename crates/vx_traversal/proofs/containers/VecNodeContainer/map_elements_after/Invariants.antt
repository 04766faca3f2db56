use Rattle.std.specs.Prelude.{◌≡◌, ◌++◌, map}
use Rattle.std.specs.List.{flat_map}
use Rattle.std.specs.Vec.Iter.{into_iter_items}
use Rattle.vx_traversal.specs.Containers.{none_after}
use Rattle.vx_traversal.specs.Rewrites.{MapsInTurn}
use Rattle.vx_traversal.proofs.containers.VecNodeContainer.map_elements_after.Given as goal

-- what the containers that are left give, after those so far, is what all give
abbrev pub invariant-loop-c : goal.invariant-loop-c
invariant-loop-c g l = record {
  shapes : map g.C.Holds.shape l.containers.items ++ map g.C.Holds.shape (into_iter_items l.c-iterator) ≡ map g.C.Holds.shape l.fn.self.items;
  callable : g.F.ElementMapper.ready l.f;
  so_far : (r t : _) → MapsInTurn g.F.ElementMapper.maps (record { value = flat_map g.C.Holds.elements l.containers.items; order = l.order; changed = l.changed }) l.f (flat_map g.C.Holds.elements (into_iter_items l.c-iterator)) r t
      → MapsInTurn g.F.ElementMapper.maps (none_after l.fn.last) l.fn.f (flat_map g.C.Holds.elements l.fn.self.items) r t;
}
