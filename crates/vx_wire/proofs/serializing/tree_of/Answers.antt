use Rattle.std.proofs.Common.{◌≡◌, ◌-◌, ◌+◌, ◌++◌, ◌∷◌, [], ap, ◌∙◌, arith, length, map, rules}
use Rattle.std.proofs.lemmas.Result.{err_from_is_err_and}
use Rattle.vx_expr.specs.Trees.{children_of}
use Rattle.vx_wire_bytes.specs.WireViews.{tree_view}
use Rattle.vx_wire.specs.Forms.{wire_of, Everywhere}
use Rattle.vx_wire.specs.Metadata.{IsSerializable, HasShortMetadata}
use Rattle.vx_wire.specs.Serializing.{IsWritten}
use Rattle.vx_wire.proofs.SerialLemmas.{also_long}
use Rattle.vx_wire.proofs.NodeLemmas.{all_reached, at_node, children_made, has_room, node_here, node_made, none_left, none_made, none_reached, reached_next, some_made, whole_made}
use Rattle.vx_wire.proofs.serializing.tree_of.Goals as goal

pub loop-node-init : goal.loop-node-init
loop-node-init c =
    let nodes = ap (map (λ e. e.now)) c.as_slice-node-items.ensures.value ∙ c.in_ok-nodes.ensures in
    record {
      written = none_reached IsWritten c.args.expr.now (map (λ e. e.now) c.as_slice-node-items.result.now) nodes;
      made = none_made c.args.expr.now (map (λ e. e.now) c.as_slice-node-items.result.now) c.new-made.result.items nodes c.new-made.ensures.items;
    }

pub overflow_sub-len : goal.overflow_sub-len
overflow_sub-len c =
    let here = node_here (λ e. e.now) c.as_slice-node-items.result.now c.loop-node.node-index c.node-item.result c.loop-node-test.true c.node-item.is in
    omega (arith, has_room c.args.expr.now _ _ _ c.loop-node.made.items here c.loop-node.invariant.made, c.len.ensures, c.children_count.ensures)

pub node_tree-requires : goal.node_tree-requires
node_tree-requires c =
    let l = c.loop-node in
    let n = c.node-item.result.now in
    let here = node_here (λ e. e.now) c.as_slice-node-items.result.now l.node-index c.node-item.result c.loop-node-test.true c.node-item.is in
    let room = has_room c.args.expr.now _ _ _ l.made.items here l.invariant.made in
    let k = c.len.result - c.children_count.result in
    let cut : k + length (children_of n) ≡ length l.made.items = omega (arith, room, c.len.ensures, c.children_count.ensures) in
    record {
      kind = at_node IsWritten IsSerializable c.args.expr.now _ _ _ here l.invariant.written c.requires;
      children = ap (map tree_view) c.in_ok-children.ensures.tail ∙ children_made c.args.expr.now n _ _ l.made.items here l.invariant.made k cut;
    }

pub returns-in_err-node_tree-clause-err : goal.returns-in_err-node_tree-clause-err
returns-in_err-node_tree-clause-err c =
    let l = c.loop-node in
    let here = node_here (λ e. e.now) c.as_slice-node-items.result.now l.node-index c.node-item.result c.loop-node-test.true c.node-item.is in
    let p = err_from_is_err_and c.from_residual-in_err-node_tree.result c.from_residual-in_err-node_tree.ensures.1 in
    rw (p.1, p.2)
    (also_long (HasShortMetadata c.node-item.result.now) (Everywhere HasShortMetadata c.args.expr.now) c.in_err-node_tree.field-0.0
    (at_node IsWritten HasShortMetadata c.args.expr.now _ _ _ here l.invariant.written) c.in_err-node_tree.ensures.err)

pub loop-node-preserved : goal.loop-node-preserved
loop-node-preserved c =
    let l = c.loop-node in
    let n = c.node-item.result.now in
    let t = c.in_ok-node_tree.field-0 in
    let here = node_here (λ e. e.now) c.as_slice-node-items.result.now l.node-index c.node-item.result c.loop-node-test.true c.node-item.is in
    let room = has_room c.args.expr.now _ _ _ l.made.items here l.invariant.made in
    let k = c.len.result - c.children_count.result in
    let cut : k + length (children_of n) ≡ length l.made.items = omega (arith, room, c.len.ensures, c.children_count.ensures) in
    record {
      written = reached_next IsWritten c.args.expr.now n _ _ here c.in_ok-node_tree.ensures.written l.invariant.written;
      made =
          node_made c.args.expr.now n _ _ l.made.items here l.invariant.made k cut t c.push.new.self.items
          (c.in_ok-push.ensures.items ∙ ap (λ ts. ts ++ t ∷ []) c.in_ok-children.ensures.items) c.in_ok-node_tree.ensures.form;
    }

pub unreachable-requires : goal.unreachable-requires
unreachable-requires c =
    let none = none_left (λ e. e.now) c.as_slice-node-items.result.now c.loop-node.node-index c.loop-node-test.false in
    let empty : c.loop-node.made.items ≡ [] = search rules in
    some_made c.args.expr.now _ c.loop-node.made.items none c.loop-node.invariant.made empty

pub returns-clause-form : goal.returns-clause-form
returns-clause-form c =
    let none = none_left (λ e. e.now) c.as_slice-node-items.result.now c.loop-node.node-index c.loop-node-test.false in
    whole_made c.args.expr.now _ c.loop-node.made.items c.pop.new.self.items c.in-Some.tree none c.in-Some.ensures.items c.loop-node.invariant.made

pub returns-clause-written : goal.returns-clause-written
returns-clause-written c =
    let none = none_left (λ e. e.now) c.as_slice-node-items.result.now c.loop-node.node-index c.loop-node-test.false in
    all_reached IsWritten c.args.expr.now _ none c.loop-node.invariant.written
