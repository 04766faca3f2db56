-- Any slots fit an expression that compares with no slot, and it rules out the same blocks with any.
use Rattle.std.proofs.Common.{◌≡◌, refl, ap₂, ℕ, Bool, true, ◌&&◌, ◌||◌, ◌++◌}
use Rattle.std.proofs.lemmas.Bool.{and_from}
use Rattle.vx_dtype.proofs.DistinctLemmas.{not_found}
use Rattle.vx_expr.specs.declared.Operator.{Operator}
use Rattle.vx_expr.specs.Trees.{Tree, root, literal, get_item, binary, not_of, is_null_of, like, between, cast, list_contains, pack, merge, select, dynamic}
use Rattle.vx_expr.specs.Trees.{Trees, no_trees, tree}
use Rattle.std.specs.List.{list_any}
use Rattle.vx_semantics.specs.Nodes.{nodes_of, nodes_of_all}
use Rattle.vx_semantics.specs.Meaning.{Slots}
use Rattle.vx_semantics.specs.Slots.{slots_fit, all_slots_fit}
use Rattle.vx_semantics.specs.Tables.{Zones}
use Rattle.vx_semantics.specs.Pruning.{rules_out, rules_out_negation}
use Rattle.vx_laws_topk.specs.TopLaws.{is_slot_comparison}
use Rattle.vx_laws_topk.specs.BoundLaws.{SlotlessFitsAnySlots, SlotlessRulesOutTheSame}
use Rattle.vx_laws_topk.proofs.Slotless.{None, none-apart}

mutual
  unfolding slots_fit nodes_of

  none-fits : (slots : Slots) (e : Tree) → None (nodes_of e) → slots_fit slots e ≡ true
  none-fits slots root h = refl
  none-fits slots (literal s) h = refl
  none-fits slots (get_item f e) h = none-fits slots e h
  none-fits slots (binary l op r) h =
      let parts = none-apart (nodes_of l) (nodes_of r) h in
      and_from (slots_fit slots l) (slots_fit slots r) (none-fits slots l parts.0) (none-fits slots r parts.1)
  none-fits slots (not_of e) h = none-fits slots e h
  none-fits slots (is_null_of e) h = none-fits slots e h
  none-fits slots (like e p negated fold_case) h =
      let parts = none-apart (nodes_of e) (nodes_of p) h in
      and_from (slots_fit slots e) (slots_fit slots p) (none-fits slots e parts.0) (none-fits slots p parts.1)
  none-fits slots (between e lower upper options) h =
      let parts = none-apart (nodes_of e) (nodes_of lower ++ nodes_of upper) h in
      let bounds = none-apart (nodes_of lower) (nodes_of upper) parts.1 in
      and_from (slots_fit slots e) (slots_fit slots lower && slots_fit slots upper) (none-fits slots e parts.0)
      (and_from (slots_fit slots lower) (slots_fit slots upper) (none-fits slots lower bounds.0) (none-fits slots upper bounds.1))
  none-fits slots (cast e target) h = none-fits slots e h
  none-fits slots (list_contains l v) h =
      let parts = none-apart (nodes_of l) (nodes_of v) h in
      and_from (slots_fit slots l) (slots_fit slots v) (none-fits slots l parts.0) (none-fits slots v parts.1)
  none-fits slots (pack names es n) h = none-fit slots es h
  none-fits slots (merge es n) h = none-fit slots es h
  none-fits slots (select s e) h = none-fits slots e h
  none-fits slots (dynamic e op k slot default) h = let no : ⊥ = cc in absurd no

  none-fit : (slots : Slots) (es : Trees) → None (nodes_of_all es) → all_slots_fit slots es ≡ true
  none-fit slots no_trees h = refl
  none-fit slots (tree e es) h =
      let parts = none-apart (nodes_of e) (nodes_of_all es) h in
      and_from (slots_fit slots e) (all_slots_fit slots es) (none-fits slots e parts.0) (none-fit slots es parts.1)

pub slotless_fits : SlotlessFitsAnySlots
slotless_fits slots e h = none-fits slots e (not_found (list_any is_slot_comparison (nodes_of e)) h)

mutual
  unfolding rules_out nodes_of

  none-rules : (zones : Zones) (slots others : Slots) (block : ℕ) (e : Tree) → None (nodes_of e) → rules_out zones slots block e ≡ rules_out zones others block e
  none-rules zones slots others block (binary l Operator.And r) h =
      let parts = none-apart (nodes_of l) (nodes_of r) h in
      ap₂ (λ (a b : Bool). a || b) (none-rules zones slots others block l parts.0) (none-rules zones slots others block r parts.1)
  none-rules zones slots others block (binary l Operator.Or r) h =
      let parts = none-apart (nodes_of l) (nodes_of r) h in
      ap₂ (λ (a b : Bool). a && b) (none-rules zones slots others block l parts.0) (none-rules zones slots others block r parts.1)
  none-rules zones slots others block (not_of e) h = none-rules_negation zones slots others block e h
  none-rules zones slots others block (dynamic e op k t default) h = let no : ⊥ = cc in absurd no
  none-rules zones slots others block _ h = refl

  none-rules_negation : (zones : Zones) (slots others : Slots) (block : ℕ) (e : Tree) → None (nodes_of e)
      → rules_out_negation zones slots block e ≡ rules_out_negation zones others block e
  none-rules_negation zones slots others block (binary l Operator.And r) h =
      let parts = none-apart (nodes_of l) (nodes_of r) h in
      ap₂ (λ (a b : Bool). a && b) (none-rules_negation zones slots others block l parts.0) (none-rules_negation zones slots others block r parts.1)
  none-rules_negation zones slots others block (binary l Operator.Or r) h =
      let parts = none-apart (nodes_of l) (nodes_of r) h in
      ap₂ (λ (a b : Bool). a || b) (none-rules_negation zones slots others block l parts.0) (none-rules_negation zones slots others block r parts.1)
  none-rules_negation zones slots others block (not_of e) h = none-rules zones slots others block e h
  none-rules_negation zones slots others block _ h = refl

pub slotless_rules : SlotlessRulesOutTheSame
slotless_rules zones slots others block e h = none-rules zones slots others block e (not_found (list_any is_slot_comparison (nodes_of e)) h)
