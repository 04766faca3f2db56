use Rattle.std.proofs.Common.{◌≡◌, ◌++◌, length, map}
use Rattle.std.specs.Str.{chars}
use Rattle.std.specs.String.{string_bytes}
use denote.Text.{Utf8}
use denote.Shadow.{shadow}
use Rattle.vx_dtype.specs.Like.{wildcards, just}
use Rattle.vx_kernels.specs.Patterns.{letters}
use Rattle.vx_kernels.proofs.patterns.needle_of.Given as goal

-- the characters so far, and the parts that the rest spells
abbrev pub invariant-loop-c : goal.invariant-loop-c
invariant-loop-c l =
    shadow (Utf8 l.rest)
    × (wildcards (letters l.fn.fold_case l.fn.text) ≡ map just (chars (string_bytes l.found)) ++ wildcards (letters l.fn.fold_case l.rest))

abbrev pub decreases-loop-c : goal.decreases-loop-c
decreases-loop-c l = length (letters l.fn.fold_case l.rest)
