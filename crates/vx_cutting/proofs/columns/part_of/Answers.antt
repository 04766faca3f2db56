use Rattle.std.proofs.Common.{◌<◌, length, arith}
use Rattle.vx_cutting.proofs.JoinLemmas.{part_more}
use Rattle.vx_cutting.proofs.columns.part_of.Goals as goal

pub loop-row-preserved : goal.loop-row-preserved
loop-row-preserved c =
    let whole = c.args.whole.now in
    let within : c.loop-row.row < length whole.rows = omega (arith, c.loop-row-test.true, c.requires.within) in
    part_more whole c.args.from c.loop-row.row c.loop-row.values.items c.push.new.self.items c.in_ok-value_at.field-0 c.loop-row.auto.row within c.in_ok-value_at.ensures.fit
    c.in_ok-value_at.ensures.value c.in_ok-push.ensures.items c.loop-row.invariant
