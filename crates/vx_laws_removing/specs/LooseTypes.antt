-- The looser typing gives a strictly typed expression its strict type.
use Rattle.std.specs.Prelude.{◌≡◌, Ok}
use Rattle.vx_dtype.specs.Types.{Ty}
use Rattle.vx_expr.specs.Trees.{Tree}
use Rattle.vx_semantics.specs.Typing.{typed_of}
use Rattle.vx_semantics.specs.LooseTyping.{loosely_typed}

-- a strictly typed expression has by the looser rules the same type
abbrev pub StrictTypesAreLoose : Type 0
StrictTypesAreLoose = (t : Ty) (e : Tree) (u : Ty) → typed_of t e ≡ Ok u → loosely_typed t e ≡ Ok u
