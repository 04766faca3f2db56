use Rattle.std.proofs.Common.{◌≡◌, ◌<◌, ap, ◌∙◌, length, arith}
use Rattle.vx_dtype.specs.RawViews.{raw_view}
use Rattle.vx_column.specs.RowValues.{shown}
use Rattle.vx_zones.proofs.RunLemmas.{run_step}
use Rattle.vx_zones.proofs.zone_columns.values_between.Goals as goal

pub loop-i-preserved : goal.loop-i-preserved
loop-i-preserved c =
    let l = c.loop-i in
    let rows = c.args.column.now.rows in
    let within : l.i < length rows = omega (arith, c.loop-i-test.true, c.requires.within) in
    let clone : raw_view c.in_ok-clone.field-0 ≡ raw_view (shown c.value_at.result) = c.in_ok-clone.ensures.cases ∙ ap raw_view c.get.ensures in
    run_step c.args.column.now.ty rows c.args.first l.i l.values.items c.push.new.self.items c.in_ok-clone.field-0 (shown c.value_at.result) l.auto.i within
    c.in_ok-push.ensures.items clone c.value_at.ensures.value c.value_at.ensures.fit l.invariant.0 l.invariant.1
