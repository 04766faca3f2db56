-- For the checker: no public clause cites this. What is known of wire texts and of what they build.
use Rattle.std.specs.Prelude.{◌≡◌, Bool}
use Rattle.vx_dtype.specs.Types.{Bytes}
use Rattle.vx_expr.specs.Trees.{Tree}
use Rattle.vx_wire_bytes.specs.Wires.{Wire, Spells}
use Rattle.vx_wire.specs.Building.{IsBuilt}
use Rattle.vx_wire.specs.declared.encodings.ExprEncoding.{ExprEncoding}

-- bytes spell one tree at most, and a tree builds one expression at most
pub record WireLaws : Type 0 where
  pub spells : (bytes : Bytes) (a b : Wire) → Spells bytes a → Spells bytes b → a ≡ b
  pub builds : (holds : ExprEncoding → Bool) (wire : Wire) (a b : Tree) → IsBuilt holds wire a → IsBuilt holds wire b → a ≡ b
