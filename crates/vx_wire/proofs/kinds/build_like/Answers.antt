use Rattle.std.proofs.Common.{length}
use Rattle.vx_expr.specs.Trees.{root, like}
use Rattle.vx_wire.proofs.BuildingLemmas.{wrong_children, not_two, no_like}
use Rattle.vx_wire.proofs.kinds.build_like.Goals as goal

pub returns-in_default-clause-refused : goal.returns-in_default-clause-refused
returns-in_default-clause-refused c = λ e. no_like c.args.metadata.now e c.in_default.ensures

pub returns-in_default-two_children-clause-refused : goal.returns-in_default-two_children-clause-refused
returns-in_default-two_children-clause-refused c =
    wrong_children (like root root c.in-Some.negated c.in-Some.case_insensitive) c.args.metadata.now (length c.args.children.items) tt c.in-Some.ensures.1 (not_two c.args.children.items c.in_default-two_children.ensures)
