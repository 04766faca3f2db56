use Rattle.std.proofs.Common.{◌≡◌, [], ◌++◌, map, drop}
use Rattle.std.specs.Str.{IsUtf8}
use Rattle.std.specs.String.{string_bytes}
use Rattle.vx_dtype.specs.PathViews.{part_name}
use Rattle.vx_dtype.specs.Texts.{quoted_text}
use Rattle.vx_laws_listing.specs.ListingTexts.{with_commas}
use Rattle.vx_listing.proofs.statistics.push_names.Given as goal

abbrev pub invariant-loop-i : goal.invariant-loop-i
invariant-loop-i l =
    IsUtf8 l.separator
    × (string_bytes l.out ++ with_commas quoted_text l.separator (map part_name (drop l.i l.parts))
    ≡ string_bytes l.fn.out ++ with_commas quoted_text [] (map part_name l.parts))
