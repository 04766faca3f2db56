use Rattle.std.proofs.Common.{◌≡◌, [], ◌++◌, map, drop}
use Rattle.std.specs.Str.{IsUtf8}
use Rattle.std.specs.String.{string_bytes}
use Rattle.vx_laws_listing.specs.ListingTexts.{stat_json, with_commas}
use Rattle.vx_listing.specs.StatViews.{known_view}
use Rattle.vx_listing.proofs.statistics.push_statistics.Given as goal

abbrev pub invariant-loop-i : goal.invariant-loop-i
invariant-loop-i l =
    IsUtf8 l.separator
    × (string_bytes l.out ++ with_commas stat_json l.separator (map known_view (drop l.i l.known))
    ≡ string_bytes l.fn.out ++ with_commas stat_json [] (map known_view l.known))
