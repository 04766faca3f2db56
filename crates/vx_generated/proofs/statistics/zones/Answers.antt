use Rattle.std.proofs.Common.{map, arith}
use Rattle.vx_zones.specs.ZoneViews.{stat_view}
use Rattle.vx_generated.proofs.ZoneLemmas.{lengths-few, zones-made}
use Rattle.vx_generated.proofs.statistics.zones.Goals as goal

pub try_new-requires : goal.try_new-requires
try_new-requires c = lengths-few c.args.rows c.in_ok-lengths.lengths.items (omega (arith, c.ranges.rows.fits)) c.in_ok-lengths.ensures

pub made-requires : goal.made-requires
made-requires c =
    zones-made c.args.rows c.in_ok-columns.columns c.in_ok-lengths.lengths.items (map stat_view c.in_ok-stats.stats.items) c.try_new.result
    (omega (arith, c.ranges.rows.fits)) c.in_ok-columns.ensures c.in_ok-lengths.ensures c.in_ok-stats.ensures c.try_new.ensures
