use Rattle.std.proofs.Common.{arith, refl, subst, ◌≡◌, Some, slice_get}
use Rattle.vx_traversal.specs.Paths.{IsBelow, IsNext}
use Rattle.vx_traversal.proofs.PathLemmas.{IsBelow-next, IsBelow-some}
use Rattle.vx_traversal.proofs.paths.path_node.Goals as goal

pub loop-init : goal.loop-init
loop-init g c = refl

pub path_place-requires : goal.path_place-requires
path_place-requires g c = IsBelow-some g.H.Target.Node.children c.loop.counter c.args.links (g.H.NodeRef.target c.args.top) (g.H.NodeRef.target c.loop.node) c.requires.0 (omega arith) c.requires.1 c.loop.invariant

pub loop-preserved : goal.loop-preserved
loop-preserved g c =
    let next : IsNext g.H.Target.Node.children (g.H.NodeRef.target c.loop.node) (g.H.NodeRef.target c.child-node.result) = subst (λ i. slice_get (g.H.Target.Node.children (g.H.NodeRef.target c.loop.node)) i ≡ Some (g.H.NodeRef.target c.child-node.result)) c.path_place.ensures.place c.child-node.ensures in
    IsBelow-next g.H.Target.Node.children c.loop.counter (g.H.NodeRef.target c.args.top) (g.H.NodeRef.target c.loop.node) (g.H.NodeRef.target c.child-node.result) c.loop.invariant next

pub returns : goal.returns
returns g c =
    let all : c.loop.counter ≡ c.args.links = omega (arith, c.loop-test.false, c.loop.auto.counter-end) in
    subst (λ i. IsBelow g.H.Target.Node.children i (g.H.NodeRef.target c.args.top) (g.H.NodeRef.target c.loop.node)) all c.loop.invariant
