use Rattle.std.proofs.Common.{◌≡◌, map}
use Rattle.vx_dtype.specs.RawViews.{raw_view}
use Rattle.vx_dtype.proofs.scalars.constructors.values_of.Given as goal

-- the values so far are those of the scalars so far
abbrev pub invariant-loop-scalar : goal.invariant-loop-scalar
invariant-loop-scalar l = map raw_view l.values.items ≡ map (λ s. s.value) l.yielded
