use Rattle.std.proofs.Common.{length}
use Rattle.vx_expr.specs.Trees.{root, binary}
use Rattle.vx_wire.proofs.BuildingLemmas.{wrong_children, not_two}
use Rattle.vx_wire.proofs.kinds.build_binary.Goals as goal

pub returns-in_default-two_children-clause-refused : goal.returns-in_default-two_children-clause-refused
returns-in_default-two_children-clause-refused c =
    wrong_children (binary root c.in-Some.operator root) c.args.metadata.now (length c.args.children.items) tt c.in-Some.ensures.1 (not_two c.args.children.items c.in_default-two_children.ensures)
