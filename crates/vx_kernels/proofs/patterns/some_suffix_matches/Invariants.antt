use Rattle.std.proofs.Common.{◌≡◌, ◌+◌, length, map}
use Rattle.std.specs.Str.{chars}
use denote.Text.{Utf8}
use denote.Shadow.{shadow}
use Rattle.vx_dtype.specs.Like.{matches, some_suffix}
use Rattle.vx_kernels.specs.Patterns.{part_view, AreNeedles}
use Rattle.vx_kernels.proofs.patterns.some_suffix_matches.Given as goal

-- what is left decides
abbrev pub invariant-suffixes : goal.invariant-suffixes
invariant-suffixes l =
    shadow (Utf8 l.rest)
    × (AreNeedles l.fn.needle l.fn.parts → AreNeedles l.needle l.parts)
    × (AreNeedles l.fn.needle l.fn.parts → some_suffix (matches (map part_view l.fn.parts)) (chars l.fn.text)
    ≡ some_suffix (matches (map part_view l.parts)) (chars l.rest))

abbrev pub decreases-suffixes : goal.decreases-suffixes
decreases-suffixes l = length (map part_view l.parts) + length (chars l.rest)
