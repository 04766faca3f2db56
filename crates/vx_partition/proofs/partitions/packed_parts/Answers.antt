use Rattle.std.proofs.Common.{length, ap, sym, ◌∙◌}
use Rattle.vx_partition.proofs.ShareLemmas.{as_many_names}
use Rattle.vx_partition.proofs.partitions.packed_parts.Goals as goal

pub pack_of-requires : goal.pack_of-requires
pack_of-requires g c =
    ap length (c.in_ok-new.ensures ∙ c.in_ok-names.ensures) ∙ as_many_names (g.A.Annotation.text c.args.annotation.now) 0 c.args.parts.now
    ∙ ap length (sym c.in_ok-values.ensures)
