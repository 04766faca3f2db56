-- For the checker: no public clause cites this. The pattern of LIKE that is kept from one row for the next.
use Rattle.std.specs.Prelude.{◌≡◌, Bool, Option, Some, None, ⊤}
use Rattle.vx_dtype.specs.Types.{Bytes}
use Rattle.vx_kernels.specs.declared.likes.LastPattern.{LastPattern}
use Rattle.vx_kernels.specs.Patterns.{IsPattern}

-- the pattern is kept beside the text that spells it
abbrev pub IsLastPattern : Bool → LastPattern → Type 0
IsLastPattern fold last = IsPattern fold last.text.now last.pattern

-- the pattern is the one of this text
abbrev pub IsPatternFor : Bool → Bytes → LastPattern → Type 0
IsPatternFor fold text last = (last.text.now ≡ text) × IsLastPattern fold last

-- a pattern that is kept is the one of its text
abbrev pub IsLastIfAny : Bool → Option LastPattern → Type 0
IsLastIfAny fold None = ⊤
IsLastIfAny fold (Some last) = IsLastPattern fold last
