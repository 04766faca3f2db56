use Rattle.std.proofs.Common.{rules, [], ◌≡◌, ◌≤◌, ◌++◌, length, map, take, ap, subst, ◌∙◌}
use Rattle.vx_expr.proofs.PostOrderLemmas.{mapped_more}
use Rattle.vx_wire_bytes.specs.WireViews.{tree_view}
use Rattle.vx_wire.proofs.OrderLemmas.{all_found, alone, child_more, fewer, walked_on}
use Rattle.vx_wire.proofs.tree_nodes.tree_nodes.Goals as goal

pub loop-node-init : goal.loop-node-init
loop-node-init c = rw (c.new-nodes.ensures.items, c.in_ok-push.ensures.items, c.new-left.ensures.items) (alone (tree_view c.args.tree.now))

pub loop-node-smaller : goal.loop-node-smaller
loop-node-smaller c =
    let kids = c.deref-child-items.ensures.value in
    let i = c.loop-child.child-index in
    fewer (map (λ t. tree_view t.now) c.pop.new.self.items) (map (λ t. tree_view t.now) c.loop-node.left.items) (map (λ t. tree_view t.now) c.loop-child.left.items) c.in-Some.node.now i
    (mapped_more (λ t. tree_view t.now) c.pop.new.self.items c.loop-node.left.items c.in-Some.node c.in-Some.ensures.items) (subst (λ ts. length ts ≤ i) kids c.loop-child-test.false)
    (c.loop-child.invariant ∙ ap (λ ts. map (λ t. tree_view t.now) c.pop.new.self.items ++ map tree_view (take i ts)) kids)

pub loop-node-preserved : goal.loop-node-preserved
loop-node-preserved c =
    let kids = c.deref-child-items.ensures.value in
    let i = c.loop-child.child-index in
    walked_on (map (λ t. tree_view t.now) c.pop.new.self.items) (map (λ t. tree_view t.now) c.loop-node.left.items) (map (λ t. tree_view t.now) c.loop-child.left.items)
    (map (λ t. tree_view t.now) c.loop-node.nodes.items) (map (λ t. tree_view t.now) c.push-in-Some.new.self.items) c.in-Some.node.now (tree_view c.args.tree.now) i
    (mapped_more (λ t. tree_view t.now) c.pop.new.self.items c.loop-node.left.items c.in-Some.node c.in-Some.ensures.items) (subst (λ ts. length ts ≤ i) kids c.loop-child-test.false)
    (c.loop-child.invariant ∙ ap (λ ts. map (λ t. tree_view t.now) c.pop.new.self.items ++ map tree_view (take i ts)) kids)
    (mapped_more (λ t. tree_view t.now) c.loop-node.nodes.items c.push-in-Some.new.self.items c.in-Some.node c.in_ok-push-2.ensures.items) c.loop-node.invariant

pub loop-child-preserved : goal.loop-child-preserved
loop-child-preserved c =
    child_more (map (λ t. tree_view t.now) c.pop.new.self.items) (map (λ t. tree_view t.now) c.loop-child.left.items) (map (λ t. tree_view t.now) c.push-in-loop-child.new.self.items)
    c.deref-child-items.result.now c.loop-child.child-index c.child-item.result c.loop-child-test.true c.child-item.is c.loop-child.invariant
    (mapped_more (λ t. tree_view t.now) c.loop-child.left.items c.push-in-loop-child.new.self.items _ c.in_ok-push-3.ensures.items)

pub returns : goal.returns
returns c =
    let none : c.loop-node.left.items ≡ [] = search rules in
    all_found (λ t. tree_view t.now) c.loop-node.left.items c.loop-node.nodes.items c.reverse.new.self.items (tree_view c.args.tree.now) none c.reverse.ensures.items c.loop-node.invariant
