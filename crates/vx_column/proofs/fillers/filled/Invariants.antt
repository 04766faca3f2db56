use Rattle.std.proofs.Common.{◌≡◌, map}
use Rattle.vx_dtype.specs.RawViews.{raw_view}
use Rattle.vx_column.specs.Splits.{unless_null}
use Rattle.vx_column.proofs.fillers.filled.Given as goal

-- the values so far, with the filler in the place of each null
abbrev pub invariant-loop-row : goal.invariant-loop-row
invariant-loop-row l = map raw_view l.made.items ≡ map (λ x. unless_null (raw_view l.filler) (raw_view x)) l.yielded
