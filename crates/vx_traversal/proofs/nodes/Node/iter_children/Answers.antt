use Rattle.std.proofs.Common.{arith, map, length, ◌≤◌}
use Rattle.std.proofs.lemmas.List.{map-append}
use Rattle.vx_traversal.proofs.Steps.{collected-one, collected-all}
use Rattle.vx_traversal.proofs.nodes.Node.iter_children.Goals as goal

pub loop-i-preserved : goal.loop-i-preserved
loop-i-preserved g c =
    simp (c.in_ok-push.ensures.items, map-append) (collected-one (map (λ child. child.now) c.loop-i.list.items) (g.Self.Node.children c.args.self.now) c.loop-i.i c.node_child.result.now c.node_child.ensures c.loop-i.invariant)

pub returns : goal.returns
returns g c =
    let past : length (g.Self.Node.children c.args.self.now) ≤ c.loop-i.i = omega (arith, c.loop-i-test.false, c.children_count-i-end.ensures) in
    (c.loop-i.list, c.f.ensures, collected-all _ _ c.loop-i.i past c.loop-i.invariant)
