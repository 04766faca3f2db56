-- Bytes spell no dynamic comparison, so each expression that they spell has a query.
use Rattle.std.proofs.Common.{◌≡◌, refl, Bool, true, ◌&&◌}
use Rattle.vx_dtype.specs.Types.{Bytes}
use Rattle.vx_expr.specs.Trees.{Tree, root, literal, get_item, binary, not_of, is_null_of, like, between, cast, list_contains, pack, merge, select}
use Rattle.vx_expr.specs.Trees.{dynamic, Trees, no_trees, tree}
use Rattle.vx_wire.specs.declared.encodings.ExprEncoding.{ExprEncoding}
use Rattle.vx_wire.specs.Metadata.{HasForm}
use Rattle.vx_wire.specs.Forms.{Everywhere, EverywhereIn}
use Rattle.vx_text.specs.Writing.{is_writable, all_writable}
use Rattle.vx_scan.specs.Texts.{SpellsTree}

mutual
  unfolding is_writable

  -- an expression of which each node has a wire form has a query
  formed_is_writable : (e : Tree) → Everywhere HasForm e → is_writable e ≡ true
  formed_is_writable root h = refl
  formed_is_writable (literal s) h = refl
  formed_is_writable (get_item f e) h = formed_is_writable e h.1
  formed_is_writable (binary l op r) h = λ i. formed_is_writable l h.1 i && formed_is_writable r h.2 i
  formed_is_writable (not_of e) h = formed_is_writable e h.1
  formed_is_writable (is_null_of e) h = formed_is_writable e h.1
  formed_is_writable (like e p negated fold_case) h = λ i. formed_is_writable e h.1 i && formed_is_writable p h.2 i
  formed_is_writable (between e lower upper options) h =
      λ i. formed_is_writable e h.1 i && (formed_is_writable lower h.2 i && formed_is_writable upper h.3 i)
  formed_is_writable (cast e t) h = formed_is_writable e h.1
  formed_is_writable (list_contains l v) h = λ i. formed_is_writable l h.1 i && formed_is_writable v h.2 i
  formed_is_writable (pack names es n) h = formed_are_writable es h.1
  formed_is_writable (merge es n) h = formed_are_writable es h.1
  formed_is_writable (select s e) h = formed_is_writable e h.1
  formed_is_writable (dynamic e op k t default) h = absurd h.0.metadata

  formed_are_writable : (es : Trees) → EverywhereIn HasForm es → all_writable es ≡ true
  formed_are_writable no_trees h = refl
  formed_are_writable (tree e es) h = λ i. formed_is_writable e h.0 i && formed_are_writable es h.1 i

-- an expression that bytes spell has a query
pub spelled_is_writable : (holds : ExprEncoding → Bool) (bytes : Bytes) (e : Tree) → SpellsTree holds bytes e → is_writable e ≡ true
spelled_is_writable holds bytes e h = formed_is_writable e h.2.forms
