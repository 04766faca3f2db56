use Rattle.std.proofs.Common.{length}
use Rattle.vx_expr.specs.Trees.{root, between}
use Rattle.vx_wire.proofs.BuildingLemmas.{wrong_children, not_three}
use Rattle.vx_wire.proofs.kinds.build_between.Goals as goal

pub returns-in_default-three_children-clause-refused : goal.returns-in_default-three_children-clause-refused
returns-in_default-three_children-clause-refused c =
    wrong_children (between root root root c.in-Some.options) c.args.metadata.now (length c.args.children.items) tt c.in-Some.ensures.1 (not_three c.args.children.items c.in_default-three_children.ensures)
