use Rattle.std.proofs.Common.{◌≡◌, map, take}
use Rattle.vx_dtype.specs.RawViews.{raw_view}
use Rattle.vx_column.specs.RawParts.{raw_truth}
use Rattle.vx_column.proofs.plain_values.truths_of_values.Given as goal

-- the truths of the values so far
abbrev pub invariant-loop-value : goal.invariant-loop-value
invariant-loop-value l = l.truths.items ≡ map (λ x. raw_truth (raw_view x)) (take l.value-index l.fn.values)
