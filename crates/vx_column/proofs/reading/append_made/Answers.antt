use Rattle.std.proofs.Common.{◌<◌, length, [], arith}
use Rattle.vx_column.proofs.AppendLemmas.{appends_more}
use Rattle.vx_column.proofs.reading.append_made.Goals as goal

pub loop-i-preserved : goal.loop-i-preserved
loop-i-preserved c =
    let within : c.loop-i.i < length c.args.column.now.rows = omega (arith, c.loop-i-test.true, c.len-i-end.ensures) in
    appends_more c.args.column.now [] _ _ c.loop-i.i _ within c.in_ok-made_at.ensures c.in_ok-push.ensures.items c.loop-i.invariant
