use Rattle.std.proofs.Common.{◌≡◌, ◌∙◌, ◌++◌, [], map, append-nil, refl, sym, ap, rules, Ok, Err}
use Rattle.std.specs.List.{flat_map}
use Rattle.std.specs.Vec.Iter.{into_iter_items}
use Rattle.vx_traversal.specs.declared.transform.Transformed.{Transformed}
use Rattle.vx_traversal.specs.Containers.{MapsElements}
use Rattle.vx_traversal.specs.ContainerShapes.{made_of}
use Rattle.vx_traversal.proofs.RewriteLemmas.{unless-err}
use Rattle.vx_traversal.proofs.ContainerLemmas.{maps-along, maps-from, flat_map-push, none-left, shapes-push, MapsEach-next, MapsEach-error, MapsElements-refilled}
use Rattle.vx_traversal.proofs.containers.VecNodeContainer.map_elements_after.Goals as goal

pub returns-in_err-mapped-clause-mapped : goal.returns-in_err-mapped-clause-mapped
returns-in_err-mapped-clause-mapped g c =
    let is : c.from_residual.result ≡ Err c.in_err-mapped.field-0.0 = search rules in
    unless-err (Transformed g.row.C.Denot) c.in_err-mapped.field-0.0 c.from_residual.result
    (MapsElements g.C.Holds.elements g.F.ElementMapper.maps c.loop-c.order c.loop-c.f c.in-Some.c (Err c.in_err-mapped.field-0.0) c.map_elements_after.new.f)
    (MapsElements (λ it. flat_map g.C.Holds.elements it.items) g.F.ElementMapper.maps c.args.last c.args.f.now c.args.self c.from_residual.result c.map_elements_after.new.f) is
    (λ mapped. (
      Err c.in_err-mapped.field-0.0,
      c.loop-c.invariant.so_far (Err c.in_err-mapped.field-0.0) c.map_elements_after.new.f
          (maps-along g.F.ElementMapper.maps _ c.loop-c.f _ _ (Err c.in_err-mapped.field-0.0) c.map_elements_after.new.f (ap (flat_map g.C.Holds.elements) c.in-Some.ensures.steps.0)
          (MapsEach-error g.F.ElementMapper.maps g.C.Holds.elements (flat_map g.C.Holds.elements c.loop-c.containers.items) c.loop-c.order c.loop-c.changed c.loop-c.f c.in-Some.c (flat_map g.C.Holds.elements (into_iter_items c.next.new.self)) c.in_err-mapped.field-0.0 c.map_elements_after.new.f mapped)),
      is,
    ))
    c.in_err-mapped.ensures.mapped

pub loop-c-preserved : goal.loop-c-preserved
loop-c-preserved g c = record {
  shapes = ap (λ made. made ++ map g.C.Holds.shape (into_iter_items c.next.new.self)) (ap (map g.C.Holds.shape) c.in_ok-push.ensures.items)
      ∙ (shapes-push g.C.Holds.shape c.loop-c.containers.items c.in_ok-mapped.mapped.value c.in-Some.c (into_iter_items c.next.new.self) c.in_ok-mapped.ensures.shaped
      ∙ (ap (λ rest. map g.C.Holds.shape c.loop-c.containers.items ++ map g.C.Holds.shape rest) (sym c.in-Some.ensures.steps.0) ∙ c.loop-c.invariant.shapes));
  callable = c.map_elements_after.ensures.again;
  so_far = λ r t more. c.loop-c.invariant.so_far r t
      (maps-along g.F.ElementMapper.maps _ c.loop-c.f _ _ r t (ap (flat_map g.C.Holds.elements) c.in-Some.ensures.steps.0)
      (MapsEach-next g.F.ElementMapper.maps g.C.Holds.elements (flat_map g.C.Holds.elements c.loop-c.containers.items) c.loop-c.order c.loop-c.changed c.loop-c.f c.in-Some.c (flat_map g.C.Holds.elements (into_iter_items c.next.new.self)) c.in_ok-mapped.mapped c.map_elements_after.new.f r t c.in_ok-mapped.ensures.mapped
      (maps-from g.F.ElementMapper.maps _ _ c.map_elements_after.new.f _ (flat_map g.C.Holds.elements c.push.new.self.items) _ r t
      (sym (ap (flat_map g.C.Holds.elements) c.in_ok-push.ensures.items ∙ flat_map-push g.C.Holds.elements c.loop-c.containers.items c.in_ok-mapped.mapped.value)) more)));
}

pub returns-clause-mapped : goal.returns-clause-mapped
returns-clause-mapped g c =
    let past : into_iter_items c.loop-c.c-iterator ≡ [] = none-left (into_iter_items c.loop-c.c-iterator) (sym c.loop-c.c-iterator.rest.ok.0 ∙ c.in-None.ensures.steps.0) in
    MapsElements-refilled g.F.ElementMapper.maps (λ it. flat_map g.C.Holds.elements it.items) c.args.last c.args.f.now c.args.self (record { value = c.loop-c.containers; order = c.loop-c.order; changed = c.loop-c.changed }) (flat_map g.C.Holds.elements c.loop-c.containers.items) c.loop-c.f refl
    (c.loop-c.invariant.so_far _ c.loop-c.f (maps-along g.F.ElementMapper.maps _ c.loop-c.f [] _ (Ok (record { value = flat_map g.C.Holds.elements c.loop-c.containers.items; order = c.loop-c.order; changed = c.loop-c.changed })) c.loop-c.f (ap (flat_map g.C.Holds.elements) past) (refl, refl)))

pub returns-clause-shaped : goal.returns-clause-shaped
returns-clause-shaped g c =
    let past : into_iter_items c.loop-c.c-iterator ≡ [] = none-left (into_iter_items c.loop-c.c-iterator) (sym c.loop-c.c-iterator.rest.ok.0 ∙ c.in-None.ensures.steps.0) in
    ap made_of (sym (append-nil (map g.C.Holds.shape c.loop-c.containers.items)) ∙ (ap (λ rest. map g.C.Holds.shape c.loop-c.containers.items ++ map g.C.Holds.shape rest) (sym past) ∙ c.loop-c.invariant.shapes))
