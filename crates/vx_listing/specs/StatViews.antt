-- How statistics of a block are seen.
use Rattle.vx_laws_listing.specs.ListingTexts as texts
use Rattle.vx_listing.specs.declared.statistics.KnownStat.{KnownStat}

-- a statistic of a block whose value is known
abbrev pub known_view : KnownStat → texts.KnownStat
known_view known = record { path = known.statistic.now.path; stat = known.statistic.now.stat; value = known.value }
