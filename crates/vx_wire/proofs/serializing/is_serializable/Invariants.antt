use Rattle.std.proofs.Common.{map, drop}
use Rattle.vx_wire.specs.Metadata.{IsSerializable}
use Rattle.vx_wire.proofs.NodeLemmas.{Reached}
use Rattle.vx_wire.proofs.serializing.is_serializable.Given as goal

-- each node before those that are left is written
abbrev pub invariant-loop-node : goal.invariant-loop-node
invariant-loop-node l = Reached IsSerializable l.expr (map (λ n. n.now) (drop l.node-index l.node-items))
