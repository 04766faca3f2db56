use Rattle.std.proofs.Common.{◌≡◌, true, false, nat_le, length, arith}
use Rattle.std.proofs.lemmas.Grind.{common_steps}
use Rattle.vx_expr.proofs.TreeLemmas.{listed_trees_of}
use Rattle.vx_expr.specs.Trees.{no_trees, merge, trees_of}
use Rattle.vx_wire.proofs.BuildingLemmas.{wrong_children, built}
use Rattle.vx_wire.proofs.kinds.build_merge.Goals as goal

pub returns-then-is_empty-clause-refused : goal.returns-then-is_empty-clause-refused
returns-then-is_empty-clause-refused c =
    let none : nat_le 1 (length c.args.children.items) ≡ false = grind (arith, common_steps) in
    wrong_children (merge no_trees c.in-Some.nullability) c.args.metadata.now (length c.args.children.items) tt c.in-Some.ensures.1 none

pub returns-clause-built : goal.returns-clause-built
returns-clause-built c =
    let some : nat_le 1 (length c.args.children.items) ≡ true = grind (arith, common_steps) in
    built (merge (trees_of c.args.children.items) c.in-Some.nullability) c.in_ok-new_expr.field-0 c.args.metadata.now c.args.children.items c.in_ok-new_expr.ensures tt c.in-Some.ensures.1 (listed_trees_of c.args.children.items) some
