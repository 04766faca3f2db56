use Rattle.std.proofs.Common.{◌≡◌, ◌∙◌, refl, sym, ap}
use Rattle.vx_traversal.specs.ContainerShapeLaws.{owned-kept}
use Rattle.vx_traversal.proofs.ContainerLemmas.{MapsElements-as}
use Rattle.vx_traversal.proofs.containers.RcNodeContainer.map_elements_after.Goals as goal

pub returns-clause-mapped : goal.returns-clause-mapped
returns-clause-mapped g c =
    let same : g.C.Holds.elements c.in_ok-inner.inner ≡ g.C.Holds.elements c.args.self.value =
    (owned-kept g.C.Holds.elements g.C.Holds.shape g.C.Clone.is_clone g.met.C.CloneContainer.clone_keeps c.args.self.value c.in_ok-inner.inner c.in_ok-inner.ensures.ok).0 in
    MapsElements-as g.F.ElementMapper.maps g.C.Holds.elements (λ it. g.C.Holds.elements it.value) c.args.last c.args.f.now c.in_ok-inner.inner c.args.self c.in_ok-mapped.mapped
    (record { value = c.in_ok-value.value; order = c.in_ok-mapped.mapped.order; changed = c.in_ok-mapped.mapped.changed }) c.map_elements_after.new.f
    (sym same) (ap g.C.Holds.elements c.in_ok-value.ensures.ok) refl refl c.in_ok-mapped.ensures.mapped

pub returns-clause-shaped : goal.returns-clause-shaped
returns-clause-shaped g c =
    let same : g.C.Holds.shape c.in_ok-inner.inner ≡ g.C.Holds.shape c.args.self.value =
    (owned-kept g.C.Holds.elements g.C.Holds.shape g.C.Clone.is_clone g.met.C.CloneContainer.clone_keeps c.args.self.value c.in_ok-inner.inner c.in_ok-inner.ensures.ok).1 in
    ap g.C.Holds.shape c.in_ok-value.ensures.ok ∙ (c.in_ok-mapped.ensures.shaped ∙ same)
