-- Slots that fit, in a node and in its children.
use Rattle.std.proofs.Common.{◌≡◌, refl, ap, sym, ◌∙◌, subst, ℕ, true, ◌&&◌, ◌||◌, not, List, [], ◌∷◌, Some, zero, suc}
use Rattle.std.specs.List.{slice_get, list_all}
use Rattle.std.proofs.lemmas.List.Folds.{list_all-append}
use Rattle.std.proofs.lemmas.Bool.{and_parts}
use Rattle.vx_dtype.specs.Types.{Ty}
use Rattle.vx_dtype.specs.TypeRules.{is_nullable, nullability_of}
use Rattle.vx_dtype.specs.Values.{Raw, raw_null, raw_bool, raw_int, raw_text, raw_list, raw_struct}
use Rattle.vx_dtype.specs.ScalarAnswers.{is_raw_null}
use Rattle.vx_expr.specs.Trees.{Tree, trees_of, root, literal, get_item, binary, not_of, is_null_of, like, between, cast, list_contains, pack, merge, select, dynamic, Trees, no_trees, tree, listed, children_of}
use Rattle.vx_semantics.specs.Slots.{null_allowed, held_fits, slots_fit, all_slots_fit}
use Rattle.vx_semantics.specs.Meaning.{Slots}
use Rattle.std.proofs.Math.Bool.{and-true, and_comm}
use Rattle.std.proofs.lemmas.Option.{same_Some, none-some}
use Rattle.vx_expr.specs.Slots.{slot_held}
use Rattle.vx_expr.specs.PostOrders.{post_order, post_order_all}
use Rattle.vx_expr.proofs.TreeLemmas.{trees_of_listed}
use Rattle.vx_expr.proofs.PostOrderLemmas.{node_last}
use Rattle.vx_typing.specs.OwnSlots.{own_slot_fits}

-- the children as the tree holds them
abbrev pub below : Tree → Trees
below e = trees_of (children_of e)

pub slots_split : (slots : Slots) (e : Tree) → slots_fit slots e ≡ (own_slot_fits slots e && all_slots_fit slots (below e))
unfolding slots_fit
slots_split slots root = refl
slots_split slots (literal s) = refl
slots_split slots (get_item f e) = sym (and-true (slots_fit slots e))
slots_split slots (binary l op r) = ap (λ b. slots_fit slots l && b) (sym (and-true (slots_fit slots r)))
slots_split slots (not_of e) = sym (and-true (slots_fit slots e))
slots_split slots (is_null_of e) = sym (and-true (slots_fit slots e))
slots_split slots (like e p negated fold_case) = ap (λ b. slots_fit slots e && b) (sym (and-true (slots_fit slots p)))
slots_split slots (between e lower upper options) = ap (λ b. slots_fit slots e && (slots_fit slots lower && b)) (sym (and-true (slots_fit slots upper)))
slots_split slots (cast e t) = sym (and-true (slots_fit slots e))
slots_split slots (list_contains l v) = ap (λ b. slots_fit slots l && b) (sym (and-true (slots_fit slots v)))
slots_split slots (pack names es n) = ap (all_slots_fit slots) (sym (trees_of_listed es))
slots_split slots (merge es n) = ap (all_slots_fit slots) (sym (trees_of_listed es))
slots_split slots (select s e) = sym (and-true (slots_fit slots e))
slots_split slots (dynamic e op k t default) = ap (λ b. held_fits (slot_held slots k) t && b) (sym (and-true (slots_fit slots e)))

slots_at : (slots : Slots) (es : List Tree) (i : ℕ) (d : Tree) → slice_get es i ≡ Some d → all_slots_fit slots (trees_of es) ≡ true → slots_fit slots d ≡ true
unfolding slots_fit
slots_at slots [] i d at h = absurd (none-some d at)
slots_at slots (e ∷ es) zero d at h = ap (slots_fit slots) (sym (same_Some e d at)) ∙ (and_parts (slots_fit slots e) (all_slots_fit slots (trees_of es)) h).0
slots_at slots (e ∷ es) (suc i) d at h = slots_at slots es i d at (and_parts (slots_fit slots e) (all_slots_fit slots (trees_of es)) h).1

-- where the slots of an expression fit, those of a child do
pub slots_of_child : (slots : Slots) (e d : Tree) (i : ℕ) → slice_get (children_of e) i ≡ Some d → slots_fit slots e ≡ true → slots_fit slots d ≡ true
slots_of_child slots e d i at h =
    slots_at slots (children_of e) i d at (and_parts (own_slot_fits slots e) (all_slots_fit slots (below e)) (sym (slots_split slots e) ∙ h)).1

-- null is allowed where the value isn't null or the type is nullable
pub null_so : (x : Raw) (t : Ty) → (not (is_raw_null x) || is_nullable (nullability_of t)) ≡ null_allowed x t
null_so raw_null t = refl
null_so (raw_bool b) t = refl
null_so (raw_int i) t = refl
null_so (raw_text s) t = refl
null_so (raw_list xs) t = refl
null_so (raw_struct xs) t = refl

-- ---- an expression by its nodes

module _ (slots : Slots) where
  -- the slots of a list of expressions, by those of its first and of the others
  one_more : (e : Tree) (es : Trees) → slots_fit slots e ≡ list_all (own_slot_fits slots) (post_order e) → list_all (own_slot_fits slots) (post_order_all es) ≡ all_slots_fit slots es
      → list_all (own_slot_fits slots) (post_order_all (tree e es)) ≡ all_slots_fit slots (tree e es)
  unfolding slots_fit post_order
  one_more e es first others = list_all-append (own_slot_fits slots) (post_order e) (post_order_all es) ∙ ap (λ b. b && list_all (own_slot_fits slots) (post_order_all es)) (sym first) ∙ ap (λ b. slots_fit slots e && b) others

  by_nodes_as : (ds es : Trees) → ds ≡ es → list_all (own_slot_fits slots) (post_order_all es) ≡ all_slots_fit slots es → list_all (own_slot_fits slots) (post_order_all ds) ≡ all_slots_fit slots ds
  by_nodes_as ds es same h = subst (λ cs. list_all (own_slot_fits slots) (post_order_all cs) ≡ all_slots_fit slots cs) (sym same) h

  -- those of an expression, by those of its children
  whole : (e : Tree) → list_all (own_slot_fits slots) (post_order_all (below e)) ≡ all_slots_fit slots (below e) → slots_fit slots e ≡ list_all (own_slot_fits slots) (post_order e)
  whole e h =
      let own = own_slot_fits slots e in
      slots_split slots e ∙ and_comm own (all_slots_fit slots (below e)) ∙ ap (λ b. b && own) (sym h) ∙ ap (λ b. list_all (own_slot_fits slots) (post_order_all (below e)) && b) (sym (and-true own))
      ∙ sym (list_all-append (own_slot_fits slots) (post_order_all (below e)) (e ∷ [])) ∙ ap (list_all (own_slot_fits slots)) (sym (node_last e))

  mutual
    unfolding slots_fit post_order

    -- the slots of an expression fit where those of each of its nodes do
    pub slots_by_nodes : (e : Tree) → slots_fit slots e ≡ list_all (own_slot_fits slots) (post_order e)
    slots_by_nodes root = whole root refl
    slots_by_nodes (literal s) = whole (literal s) refl
    slots_by_nodes (get_item f e) = whole (get_item f e) (one_more e no_trees (slots_by_nodes e) refl)
    slots_by_nodes (binary l op r) = whole (binary l op r) (one_more l (tree r no_trees) (slots_by_nodes l) (one_more r no_trees (slots_by_nodes r) refl))
    slots_by_nodes (not_of e) = whole (not_of e) (one_more e no_trees (slots_by_nodes e) refl)
    slots_by_nodes (is_null_of e) = whole (is_null_of e) (one_more e no_trees (slots_by_nodes e) refl)
    slots_by_nodes (like e p negated fold_case) = whole (like e p negated fold_case) (one_more e (tree p no_trees) (slots_by_nodes e) (one_more p no_trees (slots_by_nodes p) refl))
    slots_by_nodes (between e lower upper options) =
        whole (between e lower upper options)
        (one_more e (tree lower (tree upper no_trees)) (slots_by_nodes e) (one_more lower (tree upper no_trees) (slots_by_nodes lower) (one_more upper no_trees (slots_by_nodes upper) refl)))
    slots_by_nodes (cast e t) = whole (cast e t) (one_more e no_trees (slots_by_nodes e) refl)
    slots_by_nodes (list_contains l v) = whole (list_contains l v) (one_more l (tree v no_trees) (slots_by_nodes l) (one_more v no_trees (slots_by_nodes v) refl))
    slots_by_nodes (pack names es n) = whole (pack names es n) (by_nodes_as (trees_of (listed es)) es (trees_of_listed es) (slots_by_nodes_all es))
    slots_by_nodes (merge es n) = whole (merge es n) (by_nodes_as (trees_of (listed es)) es (trees_of_listed es) (slots_by_nodes_all es))
    slots_by_nodes (select s e) = whole (select s e) (one_more e no_trees (slots_by_nodes e) refl)
    slots_by_nodes (dynamic e op k t default) = whole (dynamic e op k t default) (one_more e no_trees (slots_by_nodes e) refl)

    -- the same of a list of expressions
    slots_by_nodes_all : (es : Trees) → list_all (own_slot_fits slots) (post_order_all es) ≡ all_slots_fit slots es
    slots_by_nodes_all no_trees = refl
    slots_by_nodes_all (tree e es) = one_more e es (slots_by_nodes e) (slots_by_nodes_all es)
