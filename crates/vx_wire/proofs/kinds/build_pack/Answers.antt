use Rattle.std.proofs.Common.{length, arith}
use Rattle.vx_expr.specs.Trees.{no_trees, pack}
use Rattle.vx_wire.proofs.BuildingLemmas.{wrong_children, other_number, no_pack, pack_built}
use Rattle.vx_wire.proofs.kinds.build_pack.Goals as goal

pub returns-in_default-clause-refused : goal.returns-in_default-clause-refused
returns-in_default-clause-refused c = λ e. no_pack c.args.metadata.now e (rw c.in_default.is at c.in_ok-nullability.ensures)

pub returns-in-Ok-clause-built : goal.returns-in-Ok-clause-built
returns-in-Ok-clause-built c =
    let read = rw c.in-Some.is at c.in_ok-nullability.ensures in
    pack_built c.in-Some.names c.args.children.items c.in-Some.nullability c.in-Ok.made c.args.metadata.now read.0 read.1 c.in-Ok.ensures

pub returns-then-len-clause-refused : goal.returns-then-len-clause-refused
returns-then-len-clause-refused c =
    let read = rw c.in-Some.is at c.in_ok-nullability.ensures in
    wrong_children (pack c.in-Some.names no_trees c.in-Some.nullability) c.args.metadata.now (length c.args.children.items) read.0 read.1 (other_number (length c.args.children.items) (length c.in-Some.names) (omega arith))
