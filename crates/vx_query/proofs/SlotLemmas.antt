-- What a byte text spells compares with no slot: such a comparison has no metadata to be spelled.
use Rattle.std.proofs.Common.{◌≡◌, ◌∙◌, refl, ap, Bool, true, false, not, List, ◌++◌}
use Rattle.std.specs.List.{list_any}
use Rattle.std.proofs.lemmas.Bool.{or_from}
use Rattle.std.proofs.lemmas.List.Folds.{list_any-append}
use Rattle.vx_dtype.specs.Types.{Bytes}
use Rattle.vx_expr.specs.Trees.{Tree, root, literal, get_item, binary, not_of, is_null_of, like, between, cast, list_contains, pack, merge, select, dynamic}
use Rattle.vx_expr.specs.Trees.{Trees, no_trees, tree}
use Rattle.vx_semantics.specs.Nodes.{nodes_of, nodes_of_all}
use Rattle.vx_wire.specs.Forms.{Everywhere, EverywhereIn}
use Rattle.vx_wire.specs.Metadata.{HasForm}
use Rattle.vx_wire.specs.declared.ExprEncoding.{ExprEncoding}
use Rattle.vx_scan.specs.Texts.{SpellsTree}
use Rattle.vx_laws_topk.specs.TopLaws.{is_slot_comparison, has_no_slot}

-- no node of these is a comparison with a slot
abbrev Slotless : List Tree → Type 0
Slotless es = list_any is_slot_comparison es ≡ false

joined : (ds es : List Tree) → Slotless ds → Slotless es → Slotless (ds ++ es)
joined ds es h k =
    list_any-append is_slot_comparison ds es ∙ or_from (list_any is_slot_comparison ds) (list_any is_slot_comparison es) h k

mutual
  unfolding nodes_of

  formed_slotless : (e : Tree) → Everywhere HasForm e → Slotless (nodes_of e)
  formed_slotless root h = refl
  formed_slotless (literal s) h = refl
  formed_slotless (get_item f e) h = formed_slotless e h.1
  formed_slotless (binary l op r) h = joined (nodes_of l) (nodes_of r) (formed_slotless l h.1) (formed_slotless r h.2)
  formed_slotless (not_of e) h = formed_slotless e h.1
  formed_slotless (is_null_of e) h = formed_slotless e h.1
  formed_slotless (like e p negated fold_case) h = joined (nodes_of e) (nodes_of p) (formed_slotless e h.1) (formed_slotless p h.2)
  formed_slotless (between e lower upper options) h =
      joined (nodes_of e) (nodes_of lower ++ nodes_of upper) (formed_slotless e h.1)
      (joined (nodes_of lower) (nodes_of upper) (formed_slotless lower h.2) (formed_slotless upper h.3))
  formed_slotless (cast e t) h = formed_slotless e h.1
  formed_slotless (list_contains l v) h = joined (nodes_of l) (nodes_of v) (formed_slotless l h.1) (formed_slotless v h.2)
  formed_slotless (pack names es n) h = all_slotless es h.1
  formed_slotless (merge es n) h = all_slotless es h.1
  formed_slotless (select s e) h = formed_slotless e h.1
  formed_slotless (dynamic e op k t default) h = absurd h.0.metadata

  all_slotless : (es : Trees) → EverywhereIn HasForm es → Slotless (nodes_of_all es)
  all_slotless no_trees h = refl
  all_slotless (tree e es) h = joined (nodes_of e) (nodes_of_all es) (formed_slotless e h.0) (all_slotless es h.1)

pub spelled_slotless : (holds : ExprEncoding → Bool) (bytes : Bytes) (e : Tree) → SpellsTree holds bytes e → has_no_slot e ≡ true
spelled_slotless holds bytes e spelled = ap not (formed_slotless e spelled.2.forms)
