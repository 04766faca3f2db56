-- How a caller knows that an expression compares with no slot.
use Rattle.std.specs.Prelude.{◌≡◌, true, None}
use Rattle.vx_expr.specs.Trees.{Tree}
use Rattle.vx_semantics.specs.Meaning.{Slots}
use Rattle.vx_eval.specs.Versions.{compared_slots, first_seen}
use Rattle.vx_laws_topk.specs.TopLaws.{has_no_slot}

-- an expression of which no slot is seen compares with none
abbrev pub UnseenSlotsAreNone : Type 0
UnseenSlotsAreNone = (slots : Slots) (e : Tree) → first_seen slots (compared_slots e) ≡ None → has_no_slot e ≡ true
