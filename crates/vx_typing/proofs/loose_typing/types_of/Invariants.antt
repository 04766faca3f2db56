use Rattle.std.proofs.Common.{List, take}
use Rattle.vx_dtype.specs.Types.{Ty}
use Rattle.vx_expr.specs.Trees.{Tree}
use Rattle.vx_typing.specs.OperandTypes.{AreLooselyAnswered, AreLooselyTyped}
use Rattle.vx_typing.proofs.loose_typing.types_of.Given as goal

-- the types so far
abbrev pub invariant-loop-answer : goal.invariant-loop-answer
invariant-loop-answer l = (t : Ty) (es : List Tree) → AreLooselyAnswered t es l.answers → AreLooselyTyped t (take l.answer-index es) l.types.items
