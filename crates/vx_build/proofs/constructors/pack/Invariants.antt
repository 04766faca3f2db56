use Rattle.std.proofs.Common.{◌≡◌, map}
use Rattle.vx_build.proofs.constructors.pack.Given as goal

abbrev pub invariant-loop-name : goal.invariant-loop-name
invariant-loop-name l = (l.names.items ≡ map (λ e. e.0) l.yielded) × (l.values.items ≡ map (λ e. e.1) l.yielded)
