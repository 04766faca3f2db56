use Rattle.std.proofs.Common.{map, drop}
use Rattle.vx_wire_bytes.specs.WireViews.{tree_view}
use Rattle.vx_wire.specs.Registries.{registered}
use Rattle.vx_wire.proofs.OrderLemmas.{Making}
use Rattle.vx_wire.proofs.building.deserialize_expr_proto.Given as goal

-- the expressions are built of the nodes before those that are left
abbrev pub invariant-loop-node : goal.invariant-loop-node
invariant-loop-node l = Making (registered l.registry) (map (λ n. tree_view n.now) (drop l.node-index l.node-items)) l.made.items (tree_view l.tree)
