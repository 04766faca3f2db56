use Rattle.std.proofs.Common.{◌≡◌, ◌-◌, ◌+◌, ◌++◌, ◌∷◌, [], ap, subst, sym, ◌∙◌, arith, length, map, rules}
use Rattle.std.proofs.lemmas.Result.{err_from_is_err_and}
use Rattle.vx_wire_bytes.specs.LeftToWrite.{children_in}
use Rattle.vx_wire_bytes.specs.WireViews.{tree_view}
use Rattle.vx_wire_bytes.specs.declared.trees.WireTree.TheViews.{out-WireTree}
use Rattle.vx_wire.specs.Building.{AreBuiltTo}
use Rattle.vx_wire.specs.Registries.{registered}
use Rattle.vx_wire.proofs.NodeLemmas.{node_here, none_left}
use Rattle.vx_wire.proofs.OrderLemmas.{children_made, has_room, node_made, none_made, refused_here, some_built, whole_built}
use Rattle.vx_wire.proofs.building.deserialize_expr_proto.Goals as goal

pub loop-node-init : goal.loop-node-init
loop-node-init c =
    none_made (registered c.args.registry.now) (tree_view c.args.tree.now) (map (λ n. tree_view n.now) c.as_slice-node-items.result.now) c.new-made.result.items
    (ap (map (λ n. tree_view n.now)) c.as_slice-node-items.ensures.value ∙ c.in_ok-nodes.ensures) c.new-made.ensures.items

pub overflow_sub-len : goal.overflow_sub-len
overflow_sub-len c =
    let l = c.loop-node in
    let holds = registered c.args.registry.now in
    let t = c.node-item.result.now in
    let here = node_here (λ n. tree_view n.now) c.as_slice-node-items.result.now l.node-index c.node-item.result c.loop-node-test.true c.node-item.is in
    omega (arith, has_room holds (tree_view c.args.tree.now) t _ _ l.made.items here l.invariant, c.len.ensures, c.len-in-loop-node.ensures, (out-WireTree t).children.ok)

pub node_expr-requires : goal.node_expr-requires
node_expr-requires c =
    let l = c.loop-node in
    let holds = registered c.args.registry.now in
    let t = c.node-item.result.now in
    let here = node_here (λ n. tree_view n.now) c.as_slice-node-items.result.now l.node-index c.node-item.result c.loop-node-test.true c.node-item.is in
    let room = has_room holds (tree_view c.args.tree.now) t _ _ l.made.items here l.invariant in
    let k = c.len.result - c.len-in-loop-node.result in
    let cut : k + length (out-WireTree t).children.items ≡ length l.made.items = omega (arith, room, c.len.ensures, c.len-in-loop-node.ensures, (out-WireTree t).children.ok) in
    subst (AreBuiltTo holds (children_in (tree_view t))) (sym c.in_ok-children.ensures.tail) (children_made holds (tree_view c.args.tree.now) t _ _ l.made.items here l.invariant k cut)

pub returns-in_err-node_expr-clause-refused : goal.returns-in_err-node_expr-clause-refused
returns-in_err-node_expr-clause-refused c =
    let l = c.loop-node in
    let holds = registered c.args.registry.now in
    let t = c.node-item.result.now in
    let here = node_here (λ n. tree_view n.now) c.as_slice-node-items.result.now l.node-index c.node-item.result c.loop-node-test.true c.node-item.is in
    let p = err_from_is_err_and c.from_residual-in_err-node_expr.result c.from_residual-in_err-node_expr.ensures.1 in
    rw (p.1, p.2) (refused_here holds (tree_view c.args.tree.now) t _ _ l.made.items here l.invariant c.in_err-node_expr.field-0.0 c.in_err-node_expr.ensures.refused)

pub loop-node-preserved : goal.loop-node-preserved
loop-node-preserved c =
    let l = c.loop-node in
    let holds = registered c.args.registry.now in
    let t = c.node-item.result.now in
    let here = node_here (λ n. tree_view n.now) c.as_slice-node-items.result.now l.node-index c.node-item.result c.loop-node-test.true c.node-item.is in
    let room = has_room holds (tree_view c.args.tree.now) t _ _ l.made.items here l.invariant in
    let k = c.len.result - c.len-in-loop-node.result in
    let cut : k + length (out-WireTree t).children.items ≡ length l.made.items = omega (arith, room, c.len.ensures, c.len-in-loop-node.ensures, (out-WireTree t).children.ok) in
    let e = c.in_ok-node_expr.field-0 in
    node_made holds (tree_view c.args.tree.now) t _ _ l.made.items here l.invariant k cut e c.push.new.self.items
    (c.in_ok-push.ensures.items ∙ ap (λ es. es ++ e ∷ []) c.in_ok-children.ensures.items) c.in_ok-node_expr.ensures.built

pub unreachable-requires : goal.unreachable-requires
unreachable-requires c =
    let none = none_left (λ n. tree_view n.now) c.as_slice-node-items.result.now c.loop-node.node-index c.loop-node-test.false in
    let empty : c.loop-node.made.items ≡ [] = search rules in
    some_built (registered c.args.registry.now) (tree_view c.args.tree.now) _ c.loop-node.made.items none c.loop-node.invariant empty

pub returns-clause-built : goal.returns-clause-built
returns-clause-built c =
    let none = none_left (λ n. tree_view n.now) c.as_slice-node-items.result.now c.loop-node.node-index c.loop-node-test.false in
    whole_built (registered c.args.registry.now) (tree_view c.args.tree.now) _ c.loop-node.made.items c.pop.new.self.items c.in-Some.expr none c.in-Some.ensures.items c.loop-node.invariant
