use Rattle.std.proofs.Common.{◌≡◌, Some, map, take}
use Rattle.vx_dtype.specs.RawViews.{raw_view}
use Rattle.vx_column.specs.RawParts.{is_raw_null}
use Rattle.vx_column.proofs.plain_values.are_null.Given as goal

-- the tests of the values so far
abbrev pub invariant-loop-value : goal.invariant-loop-value
invariant-loop-value l = l.truths.items ≡ map (λ x. Some (is_raw_null (raw_view x))) (take l.value-index l.fn.values)
