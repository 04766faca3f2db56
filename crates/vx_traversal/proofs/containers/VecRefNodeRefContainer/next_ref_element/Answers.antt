use Rattle.std.proofs.Common.{◌≡◌, Some, slice_get, sym, ap, ◌∙◌, map, arith, ◌∷◌, ◌++◌, ◌+◌, drop}
use Rattle.std.proofs.lemmas.Option.{slice_get-map, slice_get_read}
use Rattle.std.specs.Option.{option_map}
use Rattle.std.specs.List.{flat_map}
use Rattle.vx_traversal.proofs.ContainerLemmas.{left-at, left-fresh}
use Rattle.vx_traversal.proofs.containers.VecRefNodeRefContainer.next_ref_element.Goals as goal

pub returns-in-Some : goal.returns-in-Some
returns-in-Some g c =
    let at : slice_get c.args.self.now.items c.loop-cursor.cursor.index ≡ Some c.index-c.result.now = slice_get_read c.args.self.now.items c.args.self.now.len c.loop-cursor.cursor.index c.index-c.result.now c.args.self.now.ok.0 (omega (arith, c.len.ensures)) c.index-c.ensures in
    let shown : slice_get (map (λ p. p.now) c.args.self.now.items) c.loop-cursor.cursor.index ≡ Some c.index-c.result.now.now = slice_get-map (λ p. p.now) c.args.self.now.items c.loop-cursor.cursor.index ∙ ap (option_map (λ p. p.now)) at in
    sym c.loop-cursor.invariant
    ∙ (left-at g.C.NodeContainer.left g.C.Holds.elements c.loop-cursor.cursor.inner (map (λ p. p.now) c.args.self.now.items) c.loop-cursor.cursor.index c.index-c.result.now.now shown
    ∙ (ap (λ xs. xs ++ flat_map g.C.Holds.elements (drop (c.loop-cursor.cursor.index + 1) (map (λ p. p.now) c.args.self.now.items))) c.in-Some.ensures
    ∙ ap (λ xs. c.in-Some.element.now ∷ xs) (sym (left-at g.C.NodeContainer.left g.C.Holds.elements c.next_element.new.cursor (map (λ p. p.now) c.args.self.now.items) c.loop-cursor.cursor.index c.index-c.result.now.now shown))))

pub loop-cursor-preserved : goal.loop-cursor-preserved
loop-cursor-preserved g c =
    let at : slice_get c.args.self.now.items c.loop-cursor.cursor.index ≡ Some c.index-c.result.now = slice_get_read c.args.self.now.items c.args.self.now.len c.loop-cursor.cursor.index c.index-c.result.now c.args.self.now.ok.0 (omega (arith, c.len.ensures)) c.index-c.ensures in
    let shown : slice_get (map (λ p. p.now) c.args.self.now.items) c.loop-cursor.cursor.index ≡ Some c.index-c.result.now.now = slice_get-map (λ p. p.now) c.args.self.now.items c.loop-cursor.cursor.index ∙ ap (option_map (λ p. p.now)) at in
    left-fresh g.C.NodeContainer.left g.C.Holds.elements c.cursor.result (drop (c.loop-cursor.cursor.index + 1) (map (λ p. p.now) c.args.self.now.items)) c.cursor.ensures
    ∙ (ap (λ xs. xs ++ flat_map g.C.Holds.elements (drop (c.loop-cursor.cursor.index + 1) (map (λ p. p.now) c.args.self.now.items))) (sym c.in_default.ensures)
    ∙ (sym (left-at g.C.NodeContainer.left g.C.Holds.elements c.loop-cursor.cursor.inner (map (λ p. p.now) c.args.self.now.items) c.loop-cursor.cursor.index c.index-c.result.now.now shown) ∙ c.loop-cursor.invariant))
