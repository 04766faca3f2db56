use Rattle.std.proofs.Common.{◌≡◌, ◌++◌, length, true}
use Rattle.std.specs.Str.{chars}
use Rattle.std.specs.String.{string_bytes}
use denote.Text.{Utf8}
use denote.Shadow.{shadow}
use Rattle.vx_kernels.specs.Patterns.{letters}
use Rattle.vx_kernels.proofs.patterns.small_letters.Given as goal

-- the characters so far, and those of the rest
abbrev pub invariant-loop-c : goal.invariant-loop-c
invariant-loop-c l =
    shadow (Utf8 l.rest)
    × (letters true l.fn.text ≡ chars (string_bytes l.made) ++ letters true l.rest)

abbrev pub decreases-loop-c : goal.decreases-loop-c
decreases-loop-c l = length (letters true l.rest)
