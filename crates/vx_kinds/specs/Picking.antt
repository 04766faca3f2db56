-- The struct of an expression of one kind.
use Rattle.std.specs.Prelude.{◌≡◌, ◌≢◌, Option, Some, None}
use Rattle.vx_expr.specs.Trees.{Tree}
use Rattle.vx_wire.specs.Encodings.{encoding_of}
use Rattle.vx_wire.specs.declared.encodings.ExprEncoding.{ExprEncoding}

-- the struct that an expression of this kind holds, and none exactly where the expression is of another
abbrev pub IsPicked : {A : Type 0} → ExprEncoding → (A → Tree) → Tree → Option A → Type 0
IsPicked kind held e (Some x) = (encoding_of e ≡ kind) × (held x ≡ e)
IsPicked kind held e None = encoding_of e ≢ kind
