use Rattle.std.proofs.Common.{◌≡◌, [], length, arith}
use Rattle.std.proofs.lemmas.Grind.{common_steps}
use Rattle.vx_expr.specs.Trees.{root, is_null_of}
use Rattle.vx_wire.proofs.BuildingLemmas.{wrong_children, not_one}
use Rattle.vx_wire.proofs.kinds.build_is_null.Goals as goal

pub returns-in_default-clause-refused : goal.returns-in_default-clause-refused
returns-in_default-clause-refused c =
    let bytes : c.args.metadata.now ≡ [] = grind (arith, common_steps) in
    wrong_children (is_null_of root) c.args.metadata.now (length c.args.children.items) tt bytes (not_one c.args.children.items c.in_default.ensures)
