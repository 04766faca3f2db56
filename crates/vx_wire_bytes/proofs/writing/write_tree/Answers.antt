use Rattle.std.proofs.Common.{◌≡◌, map, ap, ◌∙◌}
use Rattle.std.proofs.lemmas.Result.{err_from_is_err_and}
use Rattle.vx_wire_bytes.specs.WireViews.{tree_view, trees_view}
use Rattle.vx_wire_bytes.specs.Wires.{first}
use Rattle.vx_wire_bytes.proofs.LeftLemmas.{first_fewer, first_here, first_of, none_fewer, none_here, none_of, pushed, unwritten_here}
use Rattle.vx_wire_bytes.proofs.writing.write_tree.Goals as goal

pub loop-nodes-smaller : goal.loop-nodes-smaller
loop-nodes-smaller c =
    none_fewer _ _ _ (pushed (λ s. trees_view s.now) c.pop.new.self.items c.loop-nodes.left.items c.in-Some.nodes c.in-Some.ensures.items)

pub loop-nodes-preserved : goal.loop-nodes-preserved
loop-nodes-preserved c =
    none_here c.loop-nodes.out.items (tree_view c.args.tree.now) _ _ _ (pushed (λ s. trees_view s.now) c.pop.new.self.items c.loop-nodes.left.items c.in-Some.nodes c.in-Some.ensures.items)
    (none_of c.in-Some.nodes.now c.in_default-split_first.ensures.cases) c.loop-nodes.invariant

pub loop-nodes-smaller-in-Continue-branch-3 : goal.loop-nodes-smaller-in-Continue-branch-3
loop-nodes-smaller-in-Continue-branch-3 c =
    let n = c.in-Some-split_first.node.now in
    let others = c.in-Some-split_first.others in
    first_fewer (tree_view n) _ _ _ _ _ _ (pushed (λ s. trees_view s.now) c.pop.new.self.items c.loop-nodes.left.items c.in-Some.nodes c.in-Some.ensures.items)
    (first_of c.in-Some.nodes.now n others.now c.in-Some-split_first.ensures.cases)
    (pushed (λ s. trees_view s.now) c.pop.new.self.items c.push.new.self.items others c.in_ok-push.ensures.items) c.in_ok-push_node-2.ensures.ok.2

pub loop-nodes-preserved-in-Continue-branch-3 : goal.loop-nodes-preserved-in-Continue-branch-3
loop-nodes-preserved-in-Continue-branch-3 c =
    let n = c.in-Some-split_first.node.now in
    let others = c.in-Some-split_first.others in
    first_here c.loop-nodes.out.items c.push_node-in-Some-split_first.new.out.items (tree_view c.args.tree.now) (tree_view n) _ _ _ _ _ _
    (pushed (λ s. trees_view s.now) c.pop.new.self.items c.loop-nodes.left.items c.in-Some.nodes c.in-Some.ensures.items)
    (first_of c.in-Some.nodes.now n others.now c.in-Some-split_first.ensures.cases)
    (pushed (λ s. trees_view s.now) c.pop.new.self.items c.push.new.self.items others c.in_ok-push.ensures.items) c.in_ok-push_node-2.ensures.ok.2
    c.in_ok-push_node-2.ensures.ok.0 c.in_ok-push_node-2.ensures.ok.1 c.loop-nodes.invariant

pub returns-in_err-push_node-2-clause-refused : goal.returns-in_err-push_node-2-clause-refused
returns-in_err-push_node-2-clause-refused c =
    let n = c.in-Some-split_first.node.now in
    let others = c.in-Some-split_first.others in
    let p = err_from_is_err_and c.from_residual-in_err-push_node-2.result c.from_residual-in_err-push_node-2.ensures.1 in
    rw (p.1, p.2)
    (unwritten_here c.loop-nodes.out.items (tree_view c.args.tree.now) (tree_view n) _ _ _ _ c.in_err-push_node-2.field-0.0
    (pushed (λ s. trees_view s.now) c.pop.new.self.items c.loop-nodes.left.items c.in-Some.nodes c.in-Some.ensures.items)
    (first_of c.in-Some.nodes.now n others.now c.in-Some-split_first.ensures.cases) c.loop-nodes.invariant c.in_err-push_node-2.ensures.err)
