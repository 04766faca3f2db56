-- For the checker: no public clause cites this. Types of expressions, as loops collect them.
use Rattle.std.specs.Prelude.{◌≡◌, List, [], Result, Ok, Err}
use Rattle.std.specs.List.{AllZip}
use Rattle.vx_dtype.specs.Types.{Ty}
use Rattle.vx_dtype.specs.TypeViews.{type_view}
use Rattle.vx_dtype.specs.declared.types.DType.{DType}
use Rattle.vx_expr.specs.Trees.{Tree, is_null_of, cast, children_of, trees_of}
use Rattle.vx_semantics.specs.Typing.{typed_of}
use Rattle.vx_semantics.specs.LooseTyping.{loosely_typed, all_loosely_typed}
use Rattle.std.specs.declared.vec.Vec.{Vec}
use Rattle.std.specs.declared.alloc.Global.{Global}
use Rattle.vx_typing.specs.declared.errors.TypeError.{TypeError}
use Rattle.vx_typing.specs.TypingAnswers.{Refuses, AnswersType}

-- the type is the one of the expression over the scope's type
abbrev pub IsTyped : Ty → Tree → DType → Type 0
IsTyped t e d = typed_of t e ≡ Ok (type_view d)

-- each type is the one of its expression
abbrev pub AreTyped : Ty → List Tree → List DType → Type 0
AreTyped t es ds = AllZip (IsTyped t) es ds

-- the operands that a node looks at by the looser rules
abbrev pub asked_operands : Tree → List Tree
asked_operands (is_null_of e) = []
asked_operands (cast e t) = []
asked_operands e = children_of e

-- the same of the looser rules
abbrev pub IsLooselyTyped : Ty → Tree → DType → Type 0
IsLooselyTyped t e d = loosely_typed t e ≡ Ok (type_view d)

abbrev pub AreLooselyTyped : Ty → List Tree → List DType → Type 0
AreLooselyTyped t es ds = AllZip (IsLooselyTyped t) es ds

-- the answer is the expression's type or its refusal
abbrev pub IsLooselyAnswered : Ty → Tree → Result DType TypeError → Type 0
IsLooselyAnswered t e r = AnswersType (loosely_typed t e) r

abbrev pub AreLooselyAnswered : Ty → List Tree → List (Result DType TypeError) → Type 0
AreLooselyAnswered t es rs = AllZip (IsLooselyAnswered t) es rs

-- the types of the expressions, or the first refusal among them
abbrev pub TypesOrRefuses : Ty → List Tree → Result (Vec DType Global) TypeError → Type 0
TypesOrRefuses t es (Ok ds) = AreLooselyTyped t es ds.items
TypesOrRefuses t es (Err f) = Refuses (all_loosely_typed t (trees_of es)) f
