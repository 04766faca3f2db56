use Rattle.std.proofs.Common.{◌<◌, length, arith}
use Rattle.vx_column.proofs.SameLemmas.{rows_fed_more, rows_fed_all}
use Rattle.vx_column.proofs.equality.feed_rows.Goals as goal

pub loop-i-preserved : goal.loop-i-preserved
loop-i-preserved g c =
    let within : c.loop-i.i < length c.args.column.now.rows = omega (arith, c.loop-i-test.true) in
    rows_fed_more g.H.Hasher.write c.loop-i.state _ c.feed_at.new.state c.args.column.now.rows c.loop-i.i within c.loop-i.invariant c.feed_at.ensures

pub returns : goal.returns
returns g c = rows_fed_all g.H.Hasher.write c.loop-i.state _ c.args.column.now.rows c.loop-i.i (omega arith) c.loop-i.invariant
