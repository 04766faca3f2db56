use Rattle.std.proofs.Common.{refl, sym, ap}
use Rattle.vx_traversal.proofs.ContainerLemmas.{MapsElements-as}
use Rattle.vx_traversal.proofs.containers.BoxNodeContainer.map_elements_after.Goals as goal

pub returns-clause-mapped : goal.returns-clause-mapped
returns-clause-mapped g c =
    MapsElements-as g.F.ElementMapper.maps g.C.Holds.elements (λ it. g.C.Holds.elements it.value) c.args.last c.args.f.now c.into_inner-inner.result c.args.self c.in_ok-mapped.mapped
    (record { value = c.in_ok-value.value; order = c.in_ok-mapped.mapped.order; changed = c.in_ok-mapped.mapped.changed }) c.map_elements_after.new.f
    (ap g.C.Holds.elements (sym c.into_inner-inner.ensures)) (ap g.C.Holds.elements c.in_ok-value.ensures.ok) refl refl c.in_ok-mapped.ensures.mapped
