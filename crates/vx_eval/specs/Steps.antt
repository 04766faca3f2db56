-- For the checker: no public clause cites this. What one node's step over columns answers, and what the nodes give together.
use Rattle.std.specs.Prelude.{◌≡◌, Bool, true, false, ◌&&◌, List, Result, Ok, Err, is_ok}
use Rattle.std.specs.List.{AllZip}
use Rattle.vx_dtype.specs.Types.{Ty}
use Rattle.vx_dtype.specs.Values.{Val}
use Rattle.vx_expr.specs.Trees.{Tree}
use Rattle.vx_semantics.specs.Typing.{Refusal, typed_of}
use Rattle.vx_semantics.specs.Slots.{slots_fit}
use Rattle.vx_semantics.specs.Meaning.{Slots}
use Rattle.vx_semantics.specs.Breaks.{Cause, by_sum, by_cast}
use Rattle.vx_semantics.specs.Nodes.{breaks_at_some, some_node_breaks}
use Rattle.vx_column.specs.Columns.{Column}
use Rattle.vx_column.specs.Answers.{no_faults}
use Rattle.vx_column.specs.declared.columns.ColumnRef.{ColumnRef}
use Rattle.vx_eval.specs.Meant.{IsMeant}
use Rattle.vx_typing.specs.OwnSlots.{own_slot_fits}
use Rattle.vx_eval.specs.declared.errors.Failure.{Failure}
use Rattle.vx_eval.specs.declared.errors.Failure.TheVariants.{NoMemory, Mistyped, Overflow, BadCast}

-- the column of the type that the rule gives, with these rows; mistyped only where the rule refuses
abbrev pub Makes : Result Ty Refusal → List Val → Result ColumnRef Failure → Type 0
Makes told rows (Ok c) = (told ≡ Ok c.ty) × (c.rows ≡ rows)
Makes told rows (Err Mistyped) = is_ok told ≡ false
Makes told rows (Err NoMemory) = Unit {0}
Makes told rows (Err Overflow) = ⊥
Makes told rows (Err BadCast) = ⊥

-- a row is a fault, while the operands, of which this says whether none of their rows is one, hold none
abbrev pub IsBroken : Bool → List Val → Type 0
IsBroken sound rows = (sound ≡ true) × (no_faults rows ≡ false)

-- the column of the type that the rule gives, with these rows, of which none is a fault; by this cause only where one is
abbrev pub MakesUnlessBroken : Cause → Bool → Result Ty Refusal → List Val → Result ColumnRef Failure → Type 0
MakesUnlessBroken c sound told rows (Ok made) = (told ≡ Ok made.ty) × (made.rows ≡ rows) × (no_faults rows ≡ true)
MakesUnlessBroken c sound told rows (Err Mistyped) = is_ok told ≡ false
MakesUnlessBroken c sound told rows (Err NoMemory) = Unit {0}
MakesUnlessBroken c sound told rows (Err Overflow) = (c ≡ by_sum) × IsBroken sound rows
MakesUnlessBroken c sound told rows (Err BadCast) = (c ≡ by_cast) × IsBroken sound rows

-- what a node gives over the columns of its operands
abbrev pub NodeGives : Ty → Slots → List Val → Tree → Result ColumnRef Failure → Type 0
NodeGives t slots rows e (Ok c) =
    IsMeant t slots rows e c × (own_slot_fits slots e ≡ true)
    × (breaks_at_some by_sum t slots rows e ≡ false) × (breaks_at_some by_cast t slots rows e ≡ false)
NodeGives t slots rows e (Err Mistyped) = (is_ok (typed_of t e) && own_slot_fits slots e) ≡ false
NodeGives t slots rows e (Err Overflow) = breaks_at_some by_sum t slots rows e ≡ true
NodeGives t slots rows e (Err BadCast) = breaks_at_some by_cast t slots rows e ≡ true
NodeGives t slots rows e (Err NoMemory) = Unit {0}

-- the column is the one of the expression, its slots fit, and none of its nodes breaks
abbrev pub IsComputed : Ty → Slots → List Val → Tree → Column → Type 0
IsComputed t slots rows e c =
    IsMeant t slots rows e c × (slots_fit slots e ≡ true)
    × (some_node_breaks by_sum t slots rows e ≡ false) × (some_node_breaks by_cast t slots rows e ≡ false)

-- each column is the one of its expression
abbrev pub AreComputed : Ty → Slots → List Val → List Tree → List Column → Type 0
AreComputed t slots rows es cs = AllZip (IsComputed t slots rows) es cs

-- the expression has no column, by this cause
abbrev pub Fails : Ty → Slots → List Val → Tree → Failure → Type 0
Fails t slots rows e Mistyped = (is_ok (typed_of t e) && slots_fit slots e) ≡ false
Fails t slots rows e Overflow = some_node_breaks by_sum t slots rows e ≡ true
Fails t slots rows e BadCast = some_node_breaks by_cast t slots rows e ≡ true
Fails t slots rows e NoMemory = Unit {0}

-- what an expression gives over rows
abbrev pub Computes : Ty → Slots → List Val → Tree → Result ColumnRef Failure → Type 0
Computes t slots rows e (Ok c) = IsComputed t slots rows e c
Computes t slots rows e (Err f) = Fails t slots rows e f
