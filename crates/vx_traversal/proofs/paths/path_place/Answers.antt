use Rattle.std.proofs.Common.{arith, sym, subst, ◌∙◌, ◌≡◌, ◌+◌, drop, true, false}
use Rattle.vx_traversal.specs.Paths.{compared_levels, deepest_place, is_as_deep, path_place}
use Rattle.vx_traversal.proofs.DepthLemmas.{deepest_place-end, deepest_place-next, deepest_place-past, path_place-first}
use Rattle.vx_traversal.proofs.paths.path_place.Goals.{then-is_as_deep, else-is_as_deep}
use Rattle.vx_traversal.proofs.paths.path_place.Goals as goal

pub loop-i-init : goal.loop-i-init
loop-i-init g c = record { within = c.requires; left = path_place-first g.H.Target.Node.children (g.H.NodeRef.target c.args.node) (g.H.NodeRef.target c.child-deepest.result) c.child-deepest.ensures }

pub loop-i-preserved : goal.loop-i-preserved
loop-i-preserved g c = elim c.if-is_as_deep.branch [
  | then-is_as_deep w ↦
      let as_deep : is_as_deep g.H.Target.Node.children compared_levels (g.H.NodeRef.target c.loop-i.deepest) (g.H.NodeRef.target c.child-next.result) ≡ true = sym c.is_as_deep.ensures ∙ w.if-is_as_deep.true in
      let left : deepest_place g.H.Target.Node.children (g.H.NodeRef.target c.child-next.result) c.loop-i.i (c.loop-i.i + 1) (drop (c.loop-i.i + 1) (g.H.Target.Node.children (g.H.NodeRef.target c.args.node))) ≡ path_place g.H.Target.Node.children (g.H.NodeRef.target c.args.node) =
      deepest_place-next g.H.Target.Node.children (g.H.NodeRef.target c.loop-i.deepest) c.loop-i.place c.loop-i.i (g.H.Target.Node.children (g.H.NodeRef.target c.args.node)) (g.H.NodeRef.target c.child-next.result) c.child-next.ensures as_deep ∙ c.loop-i.invariant.left in
      let placed : deepest_place g.H.Target.Node.children (g.H.NodeRef.target c.child-next.result) c.if-is_as_deep.place (c.loop-i.i + 1) (drop (c.loop-i.i + 1) (g.H.Target.Node.children (g.H.NodeRef.target c.args.node))) ≡ path_place g.H.Target.Node.children (g.H.NodeRef.target c.args.node) =
      subst (λ p. deepest_place g.H.Target.Node.children (g.H.NodeRef.target c.child-next.result) p (c.loop-i.i + 1) (drop (c.loop-i.i + 1) (g.H.Target.Node.children (g.H.NodeRef.target c.args.node))) ≡ path_place g.H.Target.Node.children (g.H.NodeRef.target c.args.node)) (sym w.place-is) left in
      record {
        within = omega (arith, w.place-is, c.loop-i-test.true, c.count-i-end.ensures);
        left = subst (λ d. deepest_place g.H.Target.Node.children (g.H.NodeRef.target d) c.if-is_as_deep.place (c.loop-i.i + 1) (drop (c.loop-i.i + 1) (g.H.Target.Node.children (g.H.NodeRef.target c.args.node))) ≡ path_place g.H.Target.Node.children (g.H.NodeRef.target c.args.node)) (sym w.deepest-is) placed;
      }
  | else-is_as_deep w ↦
      let not : is_as_deep g.H.Target.Node.children compared_levels (g.H.NodeRef.target c.loop-i.deepest) (g.H.NodeRef.target c.child-next.result) ≡ false = sym c.is_as_deep.ensures ∙ w.if-is_as_deep.false in
      let left : deepest_place g.H.Target.Node.children (g.H.NodeRef.target c.loop-i.deepest) c.loop-i.place (c.loop-i.i + 1) (drop (c.loop-i.i + 1) (g.H.Target.Node.children (g.H.NodeRef.target c.args.node))) ≡ path_place g.H.Target.Node.children (g.H.NodeRef.target c.args.node) =
      deepest_place-past g.H.Target.Node.children (g.H.NodeRef.target c.loop-i.deepest) c.loop-i.place c.loop-i.i (g.H.Target.Node.children (g.H.NodeRef.target c.args.node)) (g.H.NodeRef.target c.child-next.result) c.child-next.ensures not ∙ c.loop-i.invariant.left in
      let placed : deepest_place g.H.Target.Node.children (g.H.NodeRef.target c.loop-i.deepest) c.if-is_as_deep.place (c.loop-i.i + 1) (drop (c.loop-i.i + 1) (g.H.Target.Node.children (g.H.NodeRef.target c.args.node))) ≡ path_place g.H.Target.Node.children (g.H.NodeRef.target c.args.node) =
      subst (λ p. deepest_place g.H.Target.Node.children (g.H.NodeRef.target c.loop-i.deepest) p (c.loop-i.i + 1) (drop (c.loop-i.i + 1) (g.H.Target.Node.children (g.H.NodeRef.target c.args.node))) ≡ path_place g.H.Target.Node.children (g.H.NodeRef.target c.args.node)) (sym w.place-is) left in
      record {
        within = omega (arith, w.place-is, c.loop-i.invariant.within);
        left = subst (λ d. deepest_place g.H.Target.Node.children (g.H.NodeRef.target d) c.if-is_as_deep.place (c.loop-i.i + 1) (drop (c.loop-i.i + 1) (g.H.Target.Node.children (g.H.NodeRef.target c.args.node))) ≡ path_place g.H.Target.Node.children (g.H.NodeRef.target c.args.node)) (sym w.deepest-is) placed;
      }
]

pub returns-clause-place : goal.returns-clause-place
returns-clause-place g c = sym (deepest_place-end g.H.Target.Node.children (g.H.NodeRef.target c.loop-i.deepest) c.loop-i.place c.loop-i.i (g.H.Target.Node.children (g.H.NodeRef.target c.args.node)) (omega (arith, c.count-i-end.ensures))) ∙ c.loop-i.invariant.left
