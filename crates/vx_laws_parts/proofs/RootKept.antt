-- Packs of the columns for the row, and simplifying by types after it, keep each strictly typed expression.
use Rattle.std.proofs.Common.{◌≡◌, refl, ap, sym, ◌∙◌, Bool, Some, subst, List, [], ◌∷◌, Result, Ok}
use Rattle.std.specs.Prelude.{map}
use Rattle.std.specs.List.{list_any}
use Rattle.vx_dtype.specs.declared.Nullability.TheVariants.{NonNullable}
use Rattle.vx_dtype.specs.Types.{Bytes, Ty, Fields}
use Rattle.vx_dtype.specs.TypeRules.{field_names, field_type}
use Rattle.vx_dtype.specs.Values.{Val}
use Rattle.vx_expr.specs.Trees.{Tree, root, literal, get_item, binary, not_of, is_null_of, like, between, cast, list_contains, pack, merge, select, dynamic, Trees, no_trees, tree}
use Rattle.vx_semantics.specs.Typing.{Refusal, and_then, item_type, typed_of}
use Rattle.vx_semantics.specs.Meaning.{Slots, mean}
use Rattle.vx_semantics.specs.Slots.{slots_fit}
use Rattle.vx_semantics.specs.Asked.{Asking, asks_column, each_asked, path_or_each, asked}
use Rattle.vx_semantics.specs.Tables.{row_type}
use Rattle.vx_passes.specs.Rebuilding.{rebuilt, all_rebuilt}
use Rattle.vx_passes.specs.Replacing.{changed_by, all_changed_by, column, packed_row, packed_where_root, root_replaced}
use Rattle.vx_passes.specs.TypedSimplifying.{simplified_typed}
use Rattle.vx_laws.proofs.Preserving.{distinct_type-ok}
use Rattle.vx_laws_simplifying.proofs.Observing.{Observes, seen, seen-below}
use Rattle.vx_laws_simplifying.proofs.Kept.{Kept, kept-own, kept-then, Made, KeepsNodes, rebuilt-kept}
use Rattle.vx_laws.proofs.AnySlots.{FitsButNulls, struct-but_nulls}
use Rattle.vx_laws_removing.proofs.PackedItems.{ItemKept, items-kept}
use Rattle.vx_laws_removing.proofs.Removed.{item-found}
use Rattle.vx_laws_removing.proofs.Composed.{simplified_typed-kept}

module _ (change : Tree → Tree) where
  -- a step that never refuses
  abbrev pub Always : Tree → Result Tree Refusal
  Always n = Ok (change n)

  mutual
    unfolding rebuilt changed_by

    -- a change of nodes is a pass of such a step
    pub rebuilt-changed : (e : Tree) → rebuilt Always e ≡ Ok (changed_by change e)
    rebuilt-changed root = refl
    rebuilt-changed (literal s) = refl
    rebuilt-changed (get_item f d) = ap (λ (x : Result Tree Refusal). and_then x (λ c. Always (get_item f c))) (rebuilt-changed d)
    rebuilt-changed (binary l op r) =
        ap (λ (x : Result Tree Refusal). and_then x (λ a. and_then (rebuilt Always r) (λ b. Always (binary a op b)))) (rebuilt-changed l)
        ∙ ap (λ (x : Result Tree Refusal). and_then x (λ b. Always (binary (changed_by change l) op b))) (rebuilt-changed r)
    rebuilt-changed (not_of d) = ap (λ (x : Result Tree Refusal). and_then x (λ c. Always (not_of c))) (rebuilt-changed d)
    rebuilt-changed (is_null_of d) = ap (λ (x : Result Tree Refusal). and_then x (λ c. Always (is_null_of c))) (rebuilt-changed d)
    rebuilt-changed (like d p negated fold_case) =
        ap (λ (x : Result Tree Refusal). and_then x (λ a. and_then (rebuilt Always p) (λ b. Always (like a b negated fold_case)))) (rebuilt-changed d)
        ∙ ap (λ (x : Result Tree Refusal). and_then x (λ b. Always (like (changed_by change d) b negated fold_case))) (rebuilt-changed p)
    rebuilt-changed (between d l r options) =
        ap (λ (x : Result Tree Refusal). and_then x (λ a. and_then (rebuilt Always l) (λ b. and_then (rebuilt Always r) (λ c. Always (between a b c options))))) (rebuilt-changed d)
        ∙ (ap (λ (x : Result Tree Refusal). and_then x (λ b. and_then (rebuilt Always r) (λ c. Always (between (changed_by change d) b c options)))) (rebuilt-changed l)
        ∙ ap (λ (x : Result Tree Refusal). and_then x (λ c. Always (between (changed_by change d) (changed_by change l) c options))) (rebuilt-changed r))
    rebuilt-changed (cast d t) = ap (λ (x : Result Tree Refusal). and_then x (λ c. Always (cast c t))) (rebuilt-changed d)
    rebuilt-changed (list_contains l r) =
        ap (λ (x : Result Tree Refusal). and_then x (λ a. and_then (rebuilt Always r) (λ b. Always (list_contains a b)))) (rebuilt-changed l)
        ∙ ap (λ (x : Result Tree Refusal). and_then x (λ b. Always (list_contains (changed_by change l) b))) (rebuilt-changed r)
    rebuilt-changed (pack names es n) = ap (λ (x : Result Trees Refusal). and_then x (λ cs. Always (pack names cs n))) (all_rebuilt-changed es)
    rebuilt-changed (merge es n) = ap (λ (x : Result Trees Refusal). and_then x (λ cs. Always (merge cs n))) (all_rebuilt-changed es)
    rebuilt-changed (select s d) = ap (λ (x : Result Tree Refusal). and_then x (λ c. Always (select s c))) (rebuilt-changed d)
    rebuilt-changed (dynamic d op k t default) = ap (λ (x : Result Tree Refusal). and_then x (λ c. Always (dynamic c op k t default))) (rebuilt-changed d)

    all_rebuilt-changed : (es : Trees) → all_rebuilt Always es ≡ Ok (all_changed_by change es)
    all_rebuilt-changed no_trees = refl
    all_rebuilt-changed (tree d ds) =
        ap (λ (x : Result Tree Refusal). and_then x (λ c. and_then (all_rebuilt Always ds) (λ cs. Ok (tree c cs)))) (rebuilt-changed d)
        ∙ ap (λ (x : Result Trees Refusal). and_then x (λ cs. Ok (tree (changed_by change d) cs))) (all_rebuilt-changed ds)

module _ (fs : Fields) (slots : Slots) (row : Val) (test : Asking → Bool) (o : Observes (row_type fs) slots row test) (g : FitsButNulls row (row_type fs)) where
  -- the row asks each of its columns
  row-each : (names : List Bytes) → map asks_column names ≡ each_asked (asked (row_type fs) root) names
  unfolding asked
  row-each [] = refl
  row-each (c ∷ names) = ap (λ (xs : List Asking). asks_column c ∷ xs) (row-each names)

  row-sees : (path : List Bytes) → seen test (row_type fs) root path ≡ list_any test (path_or_each (asked (row_type fs) root) (field_names fs) path)
  unfolding asked
  row-sees [] = ap (list_any test) (row-each (field_names fs))
  row-sees (c ∷ path) = refl

  row-item : typed_of (row_type fs) root ≡ Ok (row_type fs) → (f : Bytes) (w : Ty) → field_type f fs ≡ Some w → ItemKept (row_type fs) slots row test o root column (asked (row_type fs) root) row f w
  unfolding typed_of mean asked slots_fit
  row-item h f w k = record {
    typed = ap (λ (x : Result Ty Refusal). and_then x (item_type f)) h ∙ item-found f fs w k;
    fitting = λ s. refl;
    means = refl;
    sees = λ path p. seen-below (row_type fs) slots row test o (get_item f root) (asked (row_type fs) root (f ∷ path)) refl;
  }

  row-kept : (u : Ty) → typed_of (row_type fs) root ≡ Ok u → Kept (row_type fs) slots row test o root (packed_row fs) u
  unfolding typed_of mean
  row-kept u h =
      let same : row_type fs ≡ u = distinct_type-ok (row_type fs) u h in
      let own : typed_of (row_type fs) root ≡ Ok (row_type fs) = h ∙ ap (λ (z : Ty). Ok z) (sym same) in
      subst (Kept (row_type fs) slots row test o root (packed_row fs)) same
      (items-kept (row_type fs) slots row test o root column (asked (row_type fs) root) row fs NonNullable own (struct-but_nulls row fs g) refl (λ path p. row-sees path) (row-item own))

  packed-keeps : KeepsNodes (row_type fs) slots row test o (λ n. Ok (packed_where_root fs n))
  packed-keeps root u h = record { made = packed_row fs; is = refl; kept = row-kept u h }
  packed-keeps n u h = record { made = n; is = refl; kept = kept-own (row_type fs) slots row test o n u h }

  pub preserved-kept : (e : Tree) (u : Ty) → typed_of (row_type fs) e ≡ Ok u → Made (row_type fs) slots row test o (simplified_typed (row_type fs) (root_replaced fs e)) e u
  preserved-kept e u h =
      let t = row_type fs in
      let m = rebuilt-kept t slots row test o (λ n. Ok (packed_where_root fs n)) packed-keeps e u h in
      let k = simplified_typed-kept t slots row test o m.made m.kept.ty g m.kept.typed in
      let same : ◌≡◌ {A = Result Tree Refusal} (Ok (root_replaced fs e)) (Ok m.made) = sym (rebuilt-changed (packed_where_root fs) e) ∙ m.is in
      record {
        made = k.made;
        is = ap (λ (x : Result Tree Refusal). and_then x (simplified_typed t)) same ∙ k.is;
        kept = kept-then t slots row test o e m.made k.made u m.kept k.kept;
      }
