use Rattle.std.proofs.Common.{map, drop}
use Rattle.vx_wire.specs.Serializing.{IsWritten}
use Rattle.vx_wire.proofs.NodeLemmas.{Made, Reached}
use Rattle.vx_wire.proofs.serializing.tree_of.Given as goal

-- each node before those that are left is written, and these make the expression of what is made
abbrev pub invariant-loop-node : goal.invariant-loop-node
invariant-loop-node l = record {
  written : Reached IsWritten l.expr (map (λ n. n.now) (drop l.node-index l.node-items));
  made : Made (map (λ n. n.now) (drop l.node-index l.node-items)) l.made.items l.expr;
}
