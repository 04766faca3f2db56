use Rattle.std.proofs.Common.{rules, arith, refl, ◌≡◌, ◌<◌, ◌≤◌, Some, slice_get, length, map}
use Rattle.std.proofs.lemmas.List.{length-map}
use Rattle.std.proofs.lemmas.Option.{slice_get_read}
use Rattle.vx_traversal.proofs.ReferenceOrderLemmas.{adds-node, adds-past, all-collected, mapped-at}
use Rattle.vx_traversal.proofs.references.ExprRefVortexExprExt.field_references.Goals as goal

pub loop-i-preserved : goal.loop-i-preserved
loop-i-preserved c =
    let within : c.loop-i.i < length c.in_ok-nodes.nodes.items = search rules in
    let at : slice_get c.in_ok-nodes.nodes.items c.loop-i.i ≡ Some c.index.result.now =
    slice_get_read c.in_ok-nodes.nodes.items (length c.in_ok-nodes.nodes.items) c.loop-i.i c.index.result.now refl within c.index.ensures in
    λ after rest. c.loop-i.invariant after
    (adds-node (map (λ node. node.now) c.in_ok-nodes.nodes.items) c.loop-i.i c.index.result.now.now c.loop-i.fields.keys c.add_own_names.new.fields.keys after
    (mapped-at (λ node. node.now) c.in_ok-nodes.nodes.items c.loop-i.i c.index.result.now at) c.in_ok-add_own_names.ensures rest)

pub returns : goal.returns
returns c =
    let many : c.len-i-end.result ≡ length c.in_ok-nodes.nodes.items = search rules in
    let past : length (map (λ node. node.now) c.in_ok-nodes.nodes.items) ≤ c.loop-i.i = omega (arith, length-map c.in_ok-nodes.nodes.items (λ node. node.now), many, c.loop-i-test.false) in
    all-collected c.args.self.now (map (λ node. node.now) c.in_ok-nodes.nodes.items) c.loop-i.fields c.in_ok-nodes.ensures
    (c.loop-i.invariant c.loop-i.fields.keys (adds-past (map (λ node. node.now) c.in_ok-nodes.nodes.items) c.loop-i.i c.loop-i.fields.keys past))
