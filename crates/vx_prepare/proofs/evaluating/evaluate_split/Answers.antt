use Rattle.std.proofs.Common.{ap, sym, ◌∙◌, length}
use Rattle.vx_prepare.proofs.GivenLemmas.{given_long, given_have}
use Rattle.vx_prepare.proofs.evaluating.evaluate_split.Goals as goal

pub struct_of-requires-clause-names : goal.struct_of-requires-clause-names
struct_of-requires-clause-names c =
    let s = c.args.split.now in
    let long = given_long c.args.len c.args.slots.now c.args.names.now c.args.columns.now s.partition_annotations.items s.partitions.items c.in_ok-parts.parts.items c.in_ok-parts.ensures in
    ap length c.in_ok-clone.ensures.cases ∙ c.requires.names ∙ sym long

pub struct_of-requires-clause-lengths : goal.struct_of-requires-clause-lengths
struct_of-requires-clause-lengths c =
    let s = c.args.split.now in
    given_have c.args.len c.args.slots.now c.args.names.now c.args.columns.now s.partition_annotations.items s.partitions.items c.in_ok-parts.parts.items c.in_ok-parts.ensures
