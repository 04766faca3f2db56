use Rattle.std.proofs.Common.{◌≡◌, [], length, arith}
use Rattle.std.proofs.lemmas.Grind.{common_steps}
use Rattle.vx_expr.specs.Trees.{root}
use Rattle.vx_wire.proofs.BuildingLemmas.{wrong_children, other_number}
use Rattle.vx_wire.proofs.kinds.build_root.Goals as goal

pub returns-then-not-is_empty-2-clause-refused : goal.returns-then-not-is_empty-2-clause-refused
returns-then-not-is_empty-2-clause-refused c =
    let bytes : c.args.metadata.now ≡ [] = grind (arith, common_steps) in
    wrong_children root c.args.metadata.now (length c.args.children.items) tt bytes (other_number _ 0 (grind (arith, common_steps)))
