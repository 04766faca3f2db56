use Rattle.std.proofs.Common.{◌∙◌}
use Rattle.vx_wire_bytes.proofs.TreeLemmas.{tree_view-roll}
use Rattle.vx_wire.proofs.NodeLemmas.{node_form}
use Rattle.vx_wire.proofs.serializing.node_tree.Goals as goal

pub returns-clause-form : goal.returns-clause-form
returns-clause-form c =
    tree_view-roll _ ∙ node_form c.args.node.now c.args.children.items c.in_ok-id.id c.in_ok-metadata.metadata.items c.requires.children (c.in_ok-id.ensures ∙ c.id.ensures) c.in_ok-metadata.ensures.ok.1
