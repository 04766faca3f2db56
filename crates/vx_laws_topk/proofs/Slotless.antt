-- An expression that compares with no slot means the same with any slots.
use Rattle.std.proofs.Common.{◌≡◌, refl, ap, ap₂, sym, ◌∙◌, false, List, ◌∷◌, ◌++◌}
use Rattle.std.specs.List.{list_any}
use Rattle.std.proofs.lemmas.Bool.{or_parts}
use Rattle.std.proofs.lemmas.List.Folds.{list_any-append}
use Rattle.vx_dtype.specs.Types.{Ty}
use Rattle.vx_dtype.specs.Values.{Val}
use Rattle.vx_dtype.specs.Logic.{not3, is_null3}
use Rattle.vx_dtype.specs.Order.{between3}
use Rattle.vx_dtype.specs.Like.{like3}
use Rattle.vx_dtype.specs.Casts.{cast3}
use Rattle.vx_dtype.specs.Lists.{contains3}
use Rattle.vx_dtype.specs.Structs.{field_of}
use Rattle.vx_dtype.specs.Values.{struct_val}
use Rattle.vx_dtype.proofs.DistinctLemmas.{not_found}
use Rattle.vx_expr.specs.Trees.{Tree, root, literal, get_item, binary, not_of, is_null_of, like, between, cast, list_contains, pack, merge, select, dynamic}
use Rattle.vx_expr.specs.Trees.{Trees, no_trees, tree}
use Rattle.vx_semantics.specs.Nodes.{nodes_of, nodes_of_all}
use Rattle.vx_semantics.specs.Typing.{given_names}
use Rattle.vx_semantics.specs.Meaning.{Slots, Source, binary3, select3, zip_members, merged, mean, meanings, sources}
use Rattle.vx_laws_topk.specs.TopLaws.{is_slot_comparison}
use Rattle.vx_laws_topk.specs.BoundLaws.{SlotlessMeansTheSame}

-- no node of these is a comparison with a slot
abbrev pub None : List Tree → Type 0
None es = list_any is_slot_comparison es ≡ false

pub none-apart : (ds es : List Tree) → None (ds ++ es) → None ds × None es
none-apart ds es h =
    or_parts (list_any is_slot_comparison ds) (list_any is_slot_comparison es) (sym (list_any-append is_slot_comparison ds es) ∙ h)

mutual
  unfolding mean nodes_of

  none-means : (t : Ty) (slots others : Slots) (row : Val) (e : Tree) → None (nodes_of e) → mean t slots row e ≡ mean t others row e
  none-means t slots others row root h = refl
  none-means t slots others row (literal s) h = refl
  none-means t slots others row (get_item f e) h = ap (field_of f) (none-means t slots others row e h)
  none-means t slots others row (binary l op r) h =
      let parts = none-apart (nodes_of l) (nodes_of r) h in
      ap₂ (binary3 op) (none-means t slots others row l parts.0) (none-means t slots others row r parts.1)
  none-means t slots others row (not_of e) h = ap not3 (none-means t slots others row e h)
  none-means t slots others row (is_null_of e) h = ap is_null3 (none-means t slots others row e h)
  none-means t slots others row (like e p negated fold_case) h =
      let parts = none-apart (nodes_of e) (nodes_of p) h in
      ap₂ (like3 negated fold_case) (none-means t slots others row e parts.0) (none-means t slots others row p parts.1)
  none-means t slots others row (between e lower upper options) h =
      let parts = none-apart (nodes_of e) (nodes_of lower ++ nodes_of upper) h in
      let bounds = none-apart (nodes_of lower) (nodes_of upper) parts.1 in
      ap (λ v. between3 options v (mean t slots row lower) (mean t slots row upper)) (none-means t slots others row e parts.0)
      ∙ ap₂ (between3 options (mean t others row e)) (none-means t slots others row lower bounds.0) (none-means t slots others row upper bounds.1)
  none-means t slots others row (cast e target) h = ap (cast3 target) (none-means t slots others row e h)
  none-means t slots others row (list_contains l v) h =
      let parts = none-apart (nodes_of l) (nodes_of v) h in
      ap₂ contains3 (none-means t slots others row l parts.0) (none-means t slots others row v parts.1)
  none-means t slots others row (pack names es n) h = ap (λ vs. struct_val (zip_members names vs)) (none-meanings t slots others row es h)
  none-means t slots others row (merge es n) h = ap merged (none-sources t slots others row es h)
  none-means t slots others row (select s e) h = ap (select3 s) (none-means t slots others row e h)
  none-means t slots others row (dynamic e op k slot default) h = let no : ⊥ = cc in absurd no

  none-meanings : (t : Ty) (slots others : Slots) (row : Val) (es : Trees) → None (nodes_of_all es) → meanings t slots row es ≡ meanings t others row es
  none-meanings t slots others row no_trees h = refl
  none-meanings t slots others row (tree e es) h =
      let parts = none-apart (nodes_of e) (nodes_of_all es) h in
      ap₂ (λ (v : Val) (vs : List Val). v ∷ vs) (none-means t slots others row e parts.0) (none-meanings t slots others row es parts.1)

  none-sources : (t : Ty) (slots others : Slots) (row : Val) (es : Trees) → None (nodes_of_all es) → sources t slots row es ≡ sources t others row es
  none-sources t slots others row no_trees h = refl
  none-sources t slots others row (tree e es) h =
      let parts = none-apart (nodes_of e) (nodes_of_all es) h in
      ap₂ (λ (v : Val) (ss : List Source). record { names = given_names t e; whole = v } ∷ ss) (none-means t slots others row e parts.0) (none-sources t slots others row es parts.1)

pub slotless-means : SlotlessMeansTheSame
slotless-means t slots others row e h = none-means t slots others row e (not_found (list_any is_slot_comparison (nodes_of e)) h)
