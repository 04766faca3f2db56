-- Over another scope in which its columns have the same types and values, an expression has the same type and means the same.
use Rattle.std.proofs.Common.{◌≡◌, refl, ap, sym, ◌∙◌, true, false, subst, List, [], ◌∷◌, Result, Ok}
use Rattle.std.specs.List.{flat_map, AllByRecursion}
use Rattle.std.specs.Str.{bytes_eq}
use Rattle.std.proofs.lemmas.Bool.{or_left, or_right}
use Rattle.std.proofs.lemmas.List.Folds.{list_any-append}
use Rattle.vx_dtype.specs.declared.Nullability.TheVariants.{NonNullable}
use Rattle.vx_dtype.specs.Types.{Bytes, Ty, bool_ty}
use Rattle.vx_dtype.specs.TypeRules.{has_name}
use Rattle.vx_dtype.specs.Values.{Val, struct_val}
use Rattle.vx_dtype.specs.Logic.{not3, is_null3}
use Rattle.vx_dtype.specs.Order.{between3}
use Rattle.vx_dtype.specs.Like.{like3}
use Rattle.vx_dtype.specs.Casts.{cast3}
use Rattle.vx_dtype.specs.Lists.{contains3}
use Rattle.vx_dtype.specs.Structs.{field_of}
use Rattle.vx_expr.specs.Trees.{Tree, root, literal, get_item, binary, not_of, is_null_of, like, between, cast, list_contains, pack, merge, select, dynamic, Trees, no_trees, tree, listed, children_of}
use Rattle.vx_semantics.specs.Typing.{Refusal, and_then, item_type, select_type, pack_type, merge_type, binary_type, not_type, like_type, between_type, contains_type, cast_type, dynamic_type, typed_of, all_typed, names_in, type_or_empty, given_names}
use Rattle.vx_semantics.specs.Meaning.{Slots, Source, binary3, dynamic3, select3, slot_value, merged, zip_members, mean, meanings, sources}
use Rattle.vx_laws.proofs.EachNode.{by_children}
use Rattle.vx_laws.proofs.Inverting.{bytes_eq-itself}
use Rattle.vx_laws_parts.proofs.Shown.{is_of_row}
use Rattle.vx_laws_parts.proofs.PutBack.{Stands, AllStand}
use Rattle.vx_laws_columns.proofs.Rows.{columns_in, Form, is_row, is_column, is_other, form, columns-by_children, IsRowless, children-rowless, row-not-rowless, column-alone}

module _ (t u : Ty) (slots : Slots) (row made : Val) where
  -- an expression has the same type, and means the same, over both scopes
  abbrev pub Same : Tree → Type 0
  Same e = Stands t u slots row made e e

  one-typed : (e : Tree) (rule : Ty → Result Ty Refusal) → Same e → and_then (typed_of u e) rule ≡ and_then (typed_of t e) rule
  one-typed e rule x = ap (λ (r : Result Ty Refusal). and_then r rule) x.typed

  two-typed : (d e : Tree) (rule : Ty → Ty → Result Ty Refusal) → Same d → Same e
      → and_then (typed_of u d) (λ a. and_then (typed_of u e) (rule a)) ≡ and_then (typed_of t d) (λ a. and_then (typed_of t e) (rule a))
  two-typed d e rule x y =
      ap (λ (r : Result Ty Refusal). and_then r (λ a. and_then (typed_of u e) (rule a))) x.typed
      ∙ ap (λ (r : Result Ty Refusal). and_then (typed_of t d) (λ a. and_then r (rule a))) y.typed

  two-mean : (d e : Tree) (rule : Val → Val → Val) → Same d → Same e → rule (mean u slots made d) (mean u slots made e) ≡ rule (mean t slots row d) (mean t slots row e)
  two-mean d e rule x y = ap (λ (v : Val). rule v (mean u slots made e)) x.means ∙ ap (rule (mean t slots row d)) y.means

  all-same : (es : Trees) → AllByRecursion Same (listed es) → AllStand t u slots row made es es
  unfolding typed_of mean
  all-same no_trees h = record { typed = refl; mean_same = refl; same_sources = refl }
  all-same (tree e es) h =
      let b = all-same es h.1 in
      record {
        typed =
            ap (λ (r : Result Ty Refusal). and_then r (λ v. and_then (all_typed u es) (λ vs. Ok (v ∷ vs)))) h.0.typed
            ∙ ap (λ (r : Result (List Ty) Refusal). and_then (typed_of t e) (λ v. and_then r (λ vs. Ok (v ∷ vs)))) b.typed;
        mean_same = ap (λ (v : Val). v ∷ meanings u slots made es) h.0.means ∙ ap (λ (vs : List Val). mean t slots row e ∷ vs) b.mean_same;
        same_sources =
            ap (λ (r : Result Ty Refusal). record { names = names_in (type_or_empty r); whole = mean u slots made e } ∷ sources u slots made es) h.0.typed
            ∙ (ap (λ (v : Val). record { names = given_names t e; whole = v } ∷ sources u slots made es) h.0.means
            ∙ ap (λ (vs : List Source). record { names = given_names t e; whole = mean t slots row e } ∷ vs) b.same_sources);
      }

  -- a node over children that are the same is the same
  node-same : (e : Tree) → is_of_row e ≡ false → AllByRecursion Same (children_of e) → Same e
  unfolding typed_of mean
  node-same root o h = let no : ⊥ = cc in absurd no
  node-same (literal s) o h = record { typed = refl; means = refl }
  node-same (get_item f e) o h = record { typed = one-typed e (item_type f) h.0; means = ap (field_of f) h.0.means }
  node-same (binary l op r) o h = record { typed = two-typed l r (binary_type op) h.0 h.1.0; means = two-mean l r (binary3 op) h.0 h.1.0 }
  node-same (not_of e) o h = record { typed = one-typed e not_type h.0; means = ap not3 h.0.means }
  node-same (is_null_of e) o h = record { typed = one-typed e (λ a. Ok (bool_ty NonNullable)) h.0; means = ap is_null3 h.0.means }
  node-same (like e p negated fold_case) o h = record { typed = two-typed e p like_type h.0 h.1.0; means = two-mean e p (like3 negated fold_case) h.0 h.1.0 }
  node-same (between e lower upper options) o h = record {
    typed =
        ap (λ (r : Result Ty Refusal). and_then r (λ v. and_then (typed_of u lower) (λ w. and_then (typed_of u upper) (between_type v w)))) h.0.typed
        ∙ (ap (λ (r : Result Ty Refusal). and_then (typed_of t e) (λ v. and_then r (λ w. and_then (typed_of u upper) (between_type v w)))) h.1.0.typed
        ∙ ap (λ (r : Result Ty Refusal). and_then (typed_of t e) (λ v. and_then (typed_of t lower) (λ w. and_then r (between_type v w)))) h.1.1.0.typed);
    means =
        ap (λ (v : Val). between3 options v (mean u slots made lower) (mean u slots made upper)) h.0.means
        ∙ (ap (λ (v : Val). between3 options (mean t slots row e) v (mean u slots made upper)) h.1.0.means
        ∙ ap (between3 options (mean t slots row e) (mean t slots row lower)) h.1.1.0.means);
  }
  node-same (cast e target) o h = record { typed = one-typed e (cast_type target) h.0; means = ap (cast3 target) h.0.means }
  node-same (list_contains l v) o h = record { typed = two-typed l v contains_type h.0 h.1.0; means = two-mean l v contains3 h.0 h.1.0 }
  node-same (pack names es n) o h =
      let x = all-same es h in
      record {
        typed = ap (λ (r : Result (List Ty) Refusal). and_then r (pack_type names n)) x.typed;
        means = ap (λ (vs : List Val). struct_val (zip_members names vs)) x.mean_same;
      }
  node-same (merge es n) o h =
      let x = all-same es h in
      record { typed = ap (λ (r : Result (List Ty) Refusal). and_then r (merge_type n)) x.typed; means = ap merged x.same_sources }
  node-same (select s e) o h = record { typed = one-typed e (select_type s) h.0; means = ap (select3 s) h.0.means }
  node-same (dynamic e op k slot default) o h = record {
    typed = one-typed e (dynamic_type slot) h.0;
    means = ap (λ (v : Val). dynamic3 op default v (slot_value slots k)) h.0.means;
  }

  -- the columns among these names are the same
  abbrev pub ColumnsSame : List Bytes → Type 0
  ColumnsSame cs = (c : Bytes) → has_name c cs ≡ true → Same (get_item c root)

  Moves : Tree → Type 0
  Moves e = IsRowless e → ColumnsSame (columns_in e) → Same e

  pub columns-apart : (c : Tree) (cs : List Tree) → ColumnsSame (flat_map columns_in (c ∷ cs)) → ColumnsSame (columns_in c) × ColumnsSame (flat_map columns_in cs)
  columns-apart c cs k =
      let split = λ (x : Bytes). list_any-append (bytes_eq x) (columns_in c) (flat_map columns_in cs) in (
        λ x i. k x (split x ∙ or_left (has_name x (columns_in c)) (has_name x (flat_map columns_in cs)) i),
        λ x i. k x (split x ∙ or_right (has_name x (columns_in c)) (has_name x (flat_map columns_in cs)) i),
      )

  below-same : (cs : List Tree) → AllByRecursion Moves cs → AllByRecursion IsRowless cs → ColumnsSame (flat_map columns_in cs) → AllByRecursion Same cs
  unfolding Moves
  below-same [] g h k = tt
  below-same (c ∷ cs) g h k = let p = columns-apart c cs k in (g.0 h.0 p.0, below-same cs g.1 h.1 p.1)

  -- an expression whose columns are the same is the same
  pub moved : (e : Tree) → IsRowless e → ColumnsSame (columns_in e) → Same e
  unfolding Moves
  moved = by_children Moves (λ e below. by-form e below (form e))
    where
      by-form : (e : Tree) → AllByRecursion Moves (children_of e) → Form e → Moves e
      by-form e below (is_row i) = λ h k. absurd (row-not-rowless (subst IsRowless i h))
      by-form e below (is_column f i) =
          λ h k.
          let one : columns_in e ≡ f ∷ [] = ap columns_in i ∙ column-alone f in
          subst Same (sym i) (k f (ap (has_name f) one ∙ or_left (bytes_eq f f) false (bytes_eq-itself f)))
      by-form e below (is_other i) =
          λ h k. node-same e i (below-same (children_of e) below (children-rowless e i h) (subst ColumnsSame (columns-by_children e i) k))
