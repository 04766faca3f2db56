use Rattle.std.proofs.Common.{length}
use Rattle.vx_expr.specs.Trees.{root, get_item}
use Rattle.vx_wire.proofs.BuildingLemmas.{wrong_children, not_one}
use Rattle.vx_wire.proofs.kinds.build_get_item.Goals as goal

pub returns-in_default-one_child-clause-refused : goal.returns-in_default-one_child-clause-refused
returns-in_default-one_child-clause-refused c =
    let read = rw c.in-Some.is at c.in_ok-field.ensures in
    wrong_children (get_item c.in-Some.field root) c.args.metadata.now (length c.args.children.items) read.0 read.1 (not_one c.args.children.items c.in_default-one_child.ensures)
