use Rattle.std.proofs.Common.{◌≡◌, ◌++◌, length, map}
use denote.Text.{Utf8}
use denote.Shadow.{shadow}
use Rattle.vx_dtype.specs.Like.{wildcards}
use Rattle.vx_kernels.specs.Patterns.{part_view, letters, NeedlesFit}
use Rattle.vx_kernels.proofs.patterns.parts_of.Given as goal

-- the parts so far, and those of the rest
abbrev pub invariant-loop-c : goal.invariant-loop-c
invariant-loop-c l =
    shadow (Utf8 l.rest)
    × (wildcards (letters l.fn.fold_case l.fn.text) ≡ map part_view l.parts.items ++ wildcards (letters l.fn.fold_case l.rest))
    × NeedlesFit l.parts.items (wildcards (letters l.fn.fold_case l.rest))

abbrev pub decreases-loop-c : goal.decreases-loop-c
decreases-loop-c l = length (letters l.fn.fold_case l.rest)
