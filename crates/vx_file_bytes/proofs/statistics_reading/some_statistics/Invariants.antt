use Rattle.std.proofs.Common.{map}
use Rattle.vx_dtype.specs.TypeViews.{type_view}
use Rattle.vx_zones.specs.LeafTypes.{plain_from}
use Rattle.vx_zones.specs.ZoneViews.{stat_view}
use Rattle.vx_laws_file.specs.HeaderReading.{statistic_by}
use Rattle.vx_file_bytes.proofs.ItemLemmas.{IsReadingItems}
use Rattle.vx_file_bytes.proofs.statistics_reading.some_statistics.Given as goal

abbrev pub invariant-loop : goal.invariant-loop
invariant-loop l = IsReadingItems (statistic_by (plain_from (type_view l.row)) l.lengths) l.number l.bytes l.counter l.rest (map stat_view l.stats.items)
