use Rattle.std.proofs.Common.{◌≡◌, drop}
use Rattle.vx_wire.specs.Registries.{registered, held_after}
use Rattle.vx_wire.specs.declared.encodings.ExprEncoding.{ExprEncoding}
use Rattle.vx_wire.proofs.registries.ExprRegistry.register_many.Given as goal

-- what is still to be registered gives all
abbrev pub invariant-loop-encoding : goal.invariant-loop-encoding
invariant-loop-encoding l = (e : ExprEncoding) → held_after (drop l.encoding-index l.encodings) e (registered l.self e) ≡ held_after l.encodings e (registered l.fn.self e)
