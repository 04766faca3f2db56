-- What an expression gives over columns.
use Rattle.std.specs.Prelude.{◌≡◌, true, false, List, map, Result, Ok, Err}
use Rattle.vx_dtype.specs.Types.{Ty}
use Rattle.vx_dtype.specs.Values.{Val}
use Rattle.vx_expr.specs.Trees.{Tree}
use Rattle.vx_column.specs.Columns.{Column, column}
use Rattle.vx_column.specs.declared.columns.ColumnRef.{ColumnRef}
use Rattle.vx_semantics.specs.Typing.{Refusal, and_then, unless, type_mismatch, typed_of}
use Rattle.vx_semantics.specs.Slots.{slots_fit}
use Rattle.vx_semantics.specs.Meaning.{Slots, mean}
use Rattle.vx_semantics.specs.Breaks.{Cause, by_sum, by_cast}
use Rattle.vx_semantics.specs.Nodes.{some_node_breaks}
use Rattle.vx_typing.specs.TypingAnswers.{Refuses}
use Rattle.vx_eval.specs.declared.errors.EvalError.{EvalError}
use Rattle.vx_eval.specs.declared.errors.EvalError.TheVariants.{NoMemory, Typing, Overflow, BadCast}
use Rattle.vx_typing.specs.declared.errors.TypeError.TheVariants as typing

-- the strict type of an expression whose slots fit; type mismatch where it is typed and a slot doesn't fit
abbrev pub checked_type : Ty → Slots → Tree → Result Ty Refusal
checked_type t slots e = and_then (typed_of t e) (λ u. unless (slots_fit slots e) type_mismatch (Ok u))

-- the column of what an expression of this type means at each row
abbrev pub meant : Ty → Slots → List Val → Tree → Ty → Column
meant t slots rows e u = column u (map (λ row. mean t slots row e) rows)

-- the expression is typed, its slots fit, and some node breaks at some row by this cause
abbrev pub BreaksBy : Cause → Ty → Slots → List Val → Tree → Type 0
BreaksBy c t slots rows e = ((u : Ty) × (checked_type t slots e ≡ Ok u)) × (some_node_breaks c t slots rows e ≡ true)

-- each answer with its one cause: the column exactly where the expression is typed, its slots fit and no node breaks at a row; a refusal of
-- typing is never want of memory
abbrev pub Evaluates : Ty → Slots → List Val → Tree → Result ColumnRef EvalError → Type 0
Evaluates t slots rows e (Ok c) =
    (checked_type t slots e ≡ Ok c.ty) × (c ≡ meant t slots rows e c.ty)
    × (some_node_breaks by_sum t slots rows e ≡ false) × (some_node_breaks by_cast t slots rows e ≡ false)
Evaluates t slots rows e (Err (Typing typing.NoMemory)) = ⊥
Evaluates t slots rows e (Err (Typing r)) = Refuses (checked_type t slots e) r
Evaluates t slots rows e (Err Overflow) = BreaksBy by_sum t slots rows e
Evaluates t slots rows e (Err BadCast) = BreaksBy by_cast t slots rows e
Evaluates t slots rows e (Err NoMemory) = Unit {0}
