use Rattle.std.proofs.Common.{◌≡◌, map, take}
use Rattle.vx_dtype.specs.RawViews.{raw_view}
use Rattle.vx_zones.proofs.value_types.held_by.Given as goal

-- what the scalars so far hold
abbrev pub invariant-loop-scalar : goal.invariant-loop-scalar
invariant-loop-scalar l = map raw_view l.values.items ≡ map (λ s. s.value) (take l.scalar-index l.fn.scalars)
