use Rattle.std.proofs.Common.{length}
use Rattle.vx_dtype.specs.TypeViews.{type_view}
use Rattle.vx_expr.specs.Trees.{root, cast}
use Rattle.vx_wire.proofs.BuildingLemmas.{wrong_children, not_one}
use Rattle.vx_wire.proofs.kinds.build_cast.Goals as goal

pub returns-in_default-one_child-clause-refused : goal.returns-in_default-one_child-clause-refused
returns-in_default-one_child-clause-refused c =
    let read = rw c.in-Some.is at c.in_ok-target.ensures in
    wrong_children (cast root (type_view c.in-Some.target)) c.args.metadata.now (length c.args.children.items) read.0 read.1 (not_one c.args.children.items c.in_default-one_child.ensures)
