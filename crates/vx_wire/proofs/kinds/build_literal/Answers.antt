use Rattle.std.proofs.Common.{length, arith}
use Rattle.std.proofs.lemmas.Grind.{common_steps}
use Rattle.vx_expr.specs.Trees.{literal}
use Rattle.vx_wire.proofs.BuildingLemmas.{wrong_children, other_number}
use Rattle.vx_wire.proofs.kinds.build_literal.Goals as goal

pub returns-then-not-is_empty-clause-refused : goal.returns-then-not-is_empty-clause-refused
returns-then-not-is_empty-clause-refused c =
    let read = rw c.in-Some.is at c.in_ok-value.ensures in
    wrong_children (literal c.in-Some.value) c.args.metadata.now (length c.args.children.items) read.0 read.1 (other_number _ 0 (grind (arith, common_steps)))
