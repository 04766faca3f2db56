use Rattle.std.proofs.Common.{[], length, map}
use Rattle.std.specs.Str.{chars}
use denote.Text.{Utf8}
use denote.Shadow.{shadow}
use Rattle.vx_kernels.specs.Patterns.{part_view, NeedlesFit}
use Rattle.vx_kernels.proofs.PatternLemmas.{IsUnderway}
use Rattle.vx_kernels.proofs.patterns.reach_of.Given as goal

-- the parts so far take the characters so far, and the needles of the others fit
abbrev pub invariant-loop-parts : goal.invariant-loop-parts
invariant-loop-parts l =
    shadow (Utf8 l.rest)
    × IsUnderway (map part_view l.fn.parts) (map part_view l.parts) (chars l.fn.text) (chars l.rest)
    × (NeedlesFit l.fn.parts [] → NeedlesFit l.parts [])

abbrev pub decreases-loop-parts : goal.decreases-loop-parts
decreases-loop-parts l = length l.parts
