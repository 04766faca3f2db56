-- An expression by its own node and its children: what it gives, and why it has no column.
use Rattle.std.proofs.Common.{◌≡◌, ℕ, ◌++◌, true, false, List, [], ◌∷◌, length, Some, Result, Ok, Err, refl, ap, sym, ◌∙◌}
use Rattle.std.specs.Result.{is_ok}
use Rattle.std.specs.List.{list_any, slice_get}
use Rattle.std.proofs.lemmas.Bool.{and_parts}
use Rattle.std.proofs.lemmas.List.Folds.{list_any-append}
use Rattle.vx_dtype.specs.Types.{Ty}
use Rattle.vx_dtype.specs.Values.{Val}
use Rattle.vx_expr.specs.Trees.{Tree, trees_of, children_of}
use Rattle.vx_column.specs.Columns.{Column}
use Rattle.vx_column.specs.declared.columns.ColumnRef.{ColumnRef}
use Rattle.vx_semantics.specs.Typing.{typed_of}
use Rattle.vx_semantics.specs.Slots.{slots_fit, all_slots_fit}
use Rattle.vx_semantics.specs.Meaning.{Slots}
use Rattle.vx_semantics.specs.Breaks.{Cause, by_sum, by_cast}
use Rattle.vx_semantics.specs.Nodes.{nodes_of, nodes_of_all, breaks_at_some, some_node_breaks}
use Rattle.vx_eval.specs.declared.errors.Failure.{Failure}
use Rattle.vx_eval.specs.declared.errors.Failure.TheVariants.{NoMemory, Mistyped, Overflow, BadCast}
use Rattle.vx_eval.specs.Meant.{AreMeant}
use Rattle.vx_typing.specs.OwnSlots.{own_slot_fits}
use Rattle.vx_eval.specs.Steps.{NodeGives, IsComputed, AreComputed, Fails, Computes}
use Rattle.vx_eval.proofs.FaultLemmas.{of_both, neither, one_fails, or_left}
use Rattle.vx_typing.proofs.SlotLemmas.{below, slots_split, slots_of_child}
use Rattle.vx_eval.proofs.NodeSplits.{type_of_child, nodes_split, node_of_child}

at_seam : (before : List Tree) (d : Tree) (after : List Tree) → slice_get (before ++ d ∷ after) (length before) ≡ Some d
at_seam [] d after = refl
at_seam (b ∷ before) d after = at_seam before d after

module _ (t : Ty) (slots : Slots) (rows : List Val) where
  -- ---- what is known of the children

  pub meant_of : (es : List Tree) (cs : List Column) → AreComputed t slots rows es cs → AreMeant t slots rows (trees_of es) cs
  meant_of [] [] h = tt
  meant_of [] (c ∷ cs) h = absurd h
  meant_of (e ∷ es) [] h = absurd h
  meant_of (e ∷ es) (c ∷ cs) h = (h.0.0.0, h.0.0.1, meant_of es cs h.1)

  all_slots : (es : List Tree) (cs : List Column) → AreComputed t slots rows es cs → all_slots_fit slots (trees_of es) ≡ true
  unfolding slots_fit
  all_slots [] cs h = refl
  all_slots (e ∷ es) [] h = absurd h
  all_slots (e ∷ es) (c ∷ cs) h = of_both (slots_fit slots e) (all_slots_fit slots (trees_of es)) h.0.1 (all_slots es cs h.1)

  -- a cause by which no node of a computed expression breaks
  module _ (d : Cause) (quiet : (e : Tree) (c : Column) → IsComputed t slots rows e c → some_node_breaks d t slots rows e ≡ false) where
    none_below : (es : List Tree) (cs : List Column) → AreComputed t slots rows es cs → list_any (breaks_at_some d t slots rows) (nodes_of_all (trees_of es)) ≡ false
    unfolding nodes_of
    none_below [] cs h = refl
    none_below (e ∷ es) [] h = absurd h
    none_below (e ∷ es) (c ∷ cs) h =
        list_any-append (breaks_at_some d t slots rows) (nodes_of e) (nodes_of_all (trees_of es))
        ∙ neither (list_any (breaks_at_some d t slots rows) (nodes_of e)) (list_any (breaks_at_some d t slots rows) (nodes_of_all (trees_of es))) (quiet e c h.0) (none_below es cs h.1)

    none_breaks : (e : Tree) (cs : List Column) → AreComputed t slots rows (children_of e) cs → breaks_at_some d t slots rows e ≡ false → some_node_breaks d t slots rows e ≡ false
    none_breaks e cs h own =
        ap (list_any (breaks_at_some d t slots rows)) (nodes_split e)
        ∙ neither (breaks_at_some d t slots rows e) (list_any (breaks_at_some d t slots rows) (nodes_of_all (below e))) own (none_below (children_of e) cs h)

  -- ---- what the expression gives

  own_breaks : (d : Cause) (e : Tree) → breaks_at_some d t slots rows e ≡ true → some_node_breaks d t slots rows e ≡ true
  own_breaks d e h =
      ap (list_any (breaks_at_some d t slots rows)) (nodes_split e) ∙ or_left (breaks_at_some d t slots rows e) (list_any (breaks_at_some d t slots rows) (nodes_of_all (below e))) h

  -- an expression gives what its node gives over its computed operands
  pub computed : (e : Tree) (cs : List Column) → AreComputed t slots rows (children_of e) cs → (r : Result ColumnRef Failure) → NodeGives t slots rows e r → Computes t slots rows e r
  computed e cs h (Ok c) g =
      let fit = slots_split slots e ∙ of_both (own_slot_fits slots e) (all_slots_fit slots (below e)) g.1 (all_slots (children_of e) cs h) in
      (g.0, fit, none_breaks by_sum (λ d a k. k.2) e cs h g.2, none_breaks by_cast (λ d a k. k.3) e cs h g.3)
  computed e cs h (Err NoMemory) g = tt
  computed e cs h (Err Mistyped) g =
      one_fails (is_ok (typed_of t e)) (slots_fit slots e) (is_ok (typed_of t e)) (own_slot_fits slots e) (λ q. q)
      (λ q. (and_parts (own_slot_fits slots e) (all_slots_fit slots (below e)) (sym (slots_split slots e) ∙ q)).0) g
  computed e cs h (Err Overflow) g = own_breaks by_sum e g
  computed e cs h (Err BadCast) g = own_breaks by_cast e g

  -- and fails where a child fails
  fails_by : (e d : Tree) (i : ℕ) → slice_get (children_of e) i ≡ Some d → (f : Failure) → Fails t slots rows d f → Fails t slots rows e f
  fails_by e d i at NoMemory h = tt
  fails_by e d i at Mistyped h =
      one_fails (is_ok (typed_of t e)) (slots_fit slots e) (is_ok (typed_of t d)) (slots_fit slots d) (type_of_child t e d i at) (slots_of_child slots e d i at) h
  fails_by e d i at Overflow h = node_of_child (breaks_at_some by_sum t slots rows) e d i at h
  fails_by e d i at BadCast h = node_of_child (breaks_at_some by_cast t slots rows) e d i at h

  -- so where a child among the others does
  pub fails_among : (f : Failure) (e : Tree) (before : List Tree) (d : Tree) (after : List Tree) → children_of e ≡ before ++ d ∷ after → Fails t slots rows d f → Fails t slots rows e f
  fails_among f e before d after are h = fails_by e d (length before) (ap (λ cs. slice_get cs (length before)) are ∙ at_seam before d after) f h
