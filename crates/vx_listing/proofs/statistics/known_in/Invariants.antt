use Rattle.std.proofs.Common.{◌≡◌, ◌++◌, map, drop}
use Rattle.vx_laws_listing.specs.ListingTexts.{known_in}
use Rattle.vx_listing.specs.StatViews.{known_view}
use Rattle.vx_listing.proofs.statistics.known_in.Given as goal

abbrev pub invariant-loop-statistic : goal.invariant-loop-statistic
invariant-loop-statistic l =
    map known_view l.known.items ++ known_in l.block (drop l.statistic-index l.statistics) ≡ known_in l.block l.statistics
