-- An expression whose nodes have no slots of their own compares with none.
use Rattle.std.proofs.Common.{◌≡◌, refl, ap, false, not, List, [], ◌∷◌}
use Rattle.std.specs.Prelude.{None}
use Rattle.std.specs.List.{flat_map, list_any}
use Rattle.vx_expr.specs.Trees.{Tree, root, literal, get_item, binary, not_of, is_null_of, like, between, cast, list_contains, pack, merge, select, dynamic}
use Rattle.vx_semantics.specs.Nodes.{nodes_of}
use Rattle.vx_semantics.specs.Meaning.{Slots}
use Rattle.vx_eval.specs.Versions.{own_slots, first_seen}
use Rattle.vx_laws_topk.specs.TopLaws.{is_slot_comparison}
use Rattle.vx_topk.specs.SlotLaws.{UnseenSlotsAreNone}

-- nodes with no slots of their own compare with none
unslotted : (slots : Slots) (es : List Tree) → first_seen slots (flat_map own_slots es) ≡ None → list_any is_slot_comparison es ≡ false
unslotted slots [] h = refl
unslotted slots (root ∷ es) h = unslotted slots es h
unslotted slots (literal s ∷ es) h = unslotted slots es h
unslotted slots (get_item f e ∷ es) h = unslotted slots es h
unslotted slots (binary l op r ∷ es) h = unslotted slots es h
unslotted slots (not_of e ∷ es) h = unslotted slots es h
unslotted slots (is_null_of e ∷ es) h = unslotted slots es h
unslotted slots (like e p negated fold_case ∷ es) h = unslotted slots es h
unslotted slots (between e lower upper options ∷ es) h = unslotted slots es h
unslotted slots (cast e t ∷ es) h = unslotted slots es h
unslotted slots (list_contains l v ∷ es) h = unslotted slots es h
unslotted slots (pack names vs n ∷ es) h = unslotted slots es h
unslotted slots (merge vs n ∷ es) h = unslotted slots es h
unslotted slots (select s e ∷ es) h = unslotted slots es h
unslotted slots (dynamic e op k t default ∷ es) h = let no : ⊥ = cc in absurd no

pub unseen_slots : UnseenSlotsAreNone
unseen_slots slots e h = ap not (unslotted slots (nodes_of e) h)
