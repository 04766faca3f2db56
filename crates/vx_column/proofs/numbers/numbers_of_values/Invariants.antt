use Rattle.std.proofs.Common.{◌≡◌, map, take}
use Rattle.vx_dtype.specs.RawViews.{raw_view}
use Rattle.vx_column.specs.RawParts.{raw_number}
use Rattle.vx_column.proofs.numbers.numbers_of_values.Given as goal

-- the numbers of the values so far
abbrev pub invariant-loop-value : goal.invariant-loop-value
invariant-loop-value l = l.numbers.items ≡ map (λ x. raw_number (raw_view x)) (take l.value-index l.fn.values)
