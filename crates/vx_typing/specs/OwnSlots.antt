-- For the checker: no public clause cites this. What a node itself asks of the slots.
use Rattle.std.specs.Prelude.{Bool, true, Option, Result, Ok}
use Rattle.vx_dtype.specs.Types.{Ty}
use Rattle.vx_dtype.specs.Values.{Typed}
use Rattle.vx_expr.specs.Trees.{Tree, dynamic}
use Rattle.vx_expr.specs.Slots.{slot_held}
use Rattle.vx_semantics.specs.Typing.{Refusal, and_then, unless, type_mismatch, dynamic_type}
use Rattle.vx_semantics.specs.Meaning.{Slots}
use Rattle.vx_semantics.specs.Slots.{held_fits}

-- whether the slot of a node that compares with one fits
abbrev pub own_slot_fits : Slots → Tree → Bool
own_slot_fits slots (dynamic e op k t default) = held_fits (slot_held slots k) t
own_slot_fits slots _ = true

-- the type of the comparison of a value of one type with a slot of another that holds this; refused too where what is held doesn't fit
abbrev pub dynamic_told : Ty → Ty → Option Typed → Result Ty Refusal
dynamic_told s a held = and_then (dynamic_type s a) (λ u. unless (held_fits held s) type_mismatch (Ok u))
