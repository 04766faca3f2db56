use Rattle.std.proofs.Common.{[], ◌∷◌, ◌++◌, ap, ◌∙◌, arith}
use Rattle.vx_passes.specs.Splitting.{part_names}
use Rattle.vx_partition.proofs.ShareLemmas.{next_name, all_named}
use Rattle.vx_partition.proofs.partitions.part_names.Goals as goal

pub loop-number-preserved : goal.loop-number-preserved
loop-number-preserved g c =
    let text = g.A.Annotation.text c.args.annotation.now in
    let l = c.loop-number in
    next_name text c.args.parts.now l.number (part_names text 0 c.args.parts.now) l.names.items l.invariant c.push.new.self.items
    (omega (arith, c.loop-number-test.true))
    (c.in_ok-push.ensures.items ∙ ap (λ name. l.names.items ++ name ∷ []) c.in_ok-part_name.ensures)

pub returns : goal.returns
returns g c =
    let text = g.A.Annotation.text c.args.annotation.now in
    let l = c.loop-number in
    all_named text c.args.parts.now l.number (part_names text 0 c.args.parts.now) l.names.items l.invariant
    (omega (arith, c.loop-number-test.false))
