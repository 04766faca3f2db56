use Rattle.vx_wire_bytes.proofs.TreeLemmas.{tree_view-out}
use Rattle.vx_wire_bytes.proofs.trees.WireTree.into_parts.Goals as goal

pub returns-clause-seen : goal.returns-clause-seen
returns-clause-seen c = tree_view-out c.args.self
