-- What a pass from the leaves up does to the nodes of an expression.
use Rattle.std.proofs.Common.{◌≡◌, refl, ap, sym, ◌∙◌, Bool, true, false, cond, ◌&&◌, Option, Some, None, subst, List, [], ◌∷◌, Result, Ok}
use Rattle.std.specs.Prelude.{map, option_map, unwrap_or}
use Rattle.std.specs.Option.{option_or}
use Rattle.std.specs.Str.{bytes_eq}
use Rattle.std.proofs.lemmas.Bool.{and_parts, and_from}
use Rattle.vx_dtype.specs.declared.Nullability.TheVariants.{NonNullable, Nullable}
use Rattle.vx_dtype.specs.Types.{Bytes, Ty, struct_ty}
use Rattle.vx_dtype.specs.TypeRules.{field_names, has_name}
use Rattle.vx_expr.specs.declared.FieldSelection.{FieldSelection}
use Rattle.vx_expr.specs.Selections.{names_where_known}
use Rattle.vx_expr.specs.Trees.{Tree, root, literal, get_item, binary, not_of, is_null_of, like, between, cast, list_contains, pack, merge, select, dynamic, Trees, no_trees, tree, trees_of}
use Rattle.vx_semantics.specs.Typing.{Refusal, and_then}
use Rattle.vx_semantics.specs.LooseTyping.{loosely_typed}
use Rattle.vx_semantics.specs.Merging.{merged_names, last_giver}
use Rattle.vx_passes.specs.Rebuilding.{rebuilt, all_rebuilt}
use Rattle.vx_expr.specs.Children.{packed_value}
use Rattle.vx_passes.specs.Simplifying.{known_field, field_of_pack, without_packed_fields}
use Rattle.vx_passes.specs.Selecting.{fields_pack, select_as_pack, select_removed, without_select}
use Rattle.vx_passes.specs.Merging.{Giving, giving_names, giving_of, givings, given_field, givings_pack, merge_removed, without_merge}
use Rattle.vx_laws.proofs.Inverting.{and_then-ok, Ok-same}
use Rattle.vx_laws_removing.specs.Simplest.{nodes_below, nodes_in, all_nodes, is_simple}

-- nodes that the passes treat apart
pub data Shape : Type 0 where
  a_select : Shape
  a_merge : Shape
  another : Shape

abbrev pub shape_of : Tree → Shape
shape_of (select s e) = a_select
shape_of (merge es n) = a_merge
shape_of _ = another

abbrev pub no_select : Shape → Bool
no_select a_select = false
no_select _ = true

abbrev pub neither : Shape → Bool
neither another = true
neither _ = false

abbrev pub any_shape : Shape → Bool
any_shape s = true

-- the nodes of an expression have shapes that pass
abbrev pub shaped : (Shape → Bool) → Tree → Bool
shaped q e = q (shape_of e)

mutual
  unfolding nodes_below

  pub any_below : (e : Tree) → nodes_below (shaped any_shape) e ≡ true
  any_below root = refl
  any_below (literal s) = refl
  any_below (get_item f d) = any_below d
  any_below (binary l op r) = and_from (nodes_below (shaped any_shape) l) (nodes_below (shaped any_shape) r) (any_below l) (any_below r)
  any_below (not_of d) = any_below d
  any_below (is_null_of d) = any_below d
  any_below (like d p negated fold_case) = and_from (nodes_below (shaped any_shape) d) (nodes_below (shaped any_shape) p) (any_below d) (any_below p)
  any_below (between d lower upper options) =
      and_from (nodes_below (shaped any_shape) d) (nodes_below (shaped any_shape) lower && nodes_below (shaped any_shape) upper) (any_below d)
      (and_from (nodes_below (shaped any_shape) lower) (nodes_below (shaped any_shape) upper) (any_below lower) (any_below upper))
  any_below (cast d t) = any_below d
  any_below (list_contains l v) = and_from (nodes_below (shaped any_shape) l) (nodes_below (shaped any_shape) v) (any_below l) (any_below v)
  any_below (pack names es n) = any_in es
  any_below (merge es n) = any_in es
  any_below (select s d) = any_below d
  any_below (dynamic d op k t default) = any_below d

  any_in : (es : Trees) → nodes_in (shaped any_shape) es ≡ true
  any_in no_trees = refl
  any_in (tree d ds) = and_from (nodes_below (shaped any_shape) d) (nodes_in (shaped any_shape) ds) (any_below d) (any_in ds)

-- a step that makes, of a node of these shapes over good nodes, good nodes alone
abbrev pub MakesGood : (Shape → Bool) → (Tree → Bool) → (Tree → Result Tree Refusal) → Type 0
MakesGood q good step = (n d : Tree) → q (shape_of n) ≡ true → nodes_below good n ≡ true → step n ≡ Ok d → all_nodes good d ≡ true

module _ (q : Shape → Bool) (good : Tree → Bool) (step : Tree → Result Tree Refusal) (k : MakesGood q good step) where
  abbrev pub Shaped : Tree → Bool
  Shaped e = q (shape_of e)

  mutual
    unfolding nodes_below rebuilt

    pub rebuilt-good : (e d : Tree) → all_nodes Shaped e ≡ true → rebuilt step e ≡ Ok d → all_nodes good d ≡ true
    rebuilt-good root d s h = k root d (and_parts (Shaped root) true s).0 refl h
    rebuilt-good (literal c) d s h = k (literal c) d (and_parts (Shaped (literal c)) true s).0 refl h
    rebuilt-good (get_item f e) d s h =
        let p = and_parts (Shaped (get_item f e)) (all_nodes Shaped e) s in
        let a = and_then-ok (rebuilt step e) (λ c. step (get_item f c)) d h in
        k (get_item f a.given) d p.0 (rebuilt-good e a.given p.1 a.was) a.gave
    rebuilt-good (binary l op r) d s h =
        let p = and_parts (Shaped (binary l op r)) (all_nodes Shaped l && all_nodes Shaped r) s in
        let m = and_parts (all_nodes Shaped l) (all_nodes Shaped r) p.1 in
        let a = and_then-ok (rebuilt step l) (λ x. and_then (rebuilt step r) (λ y. step (binary x op y))) d h in
        let b = and_then-ok (rebuilt step r) (λ y. step (binary a.given op y)) d a.gave in
        k (binary a.given op b.given) d p.0 (and_from (all_nodes good a.given) (all_nodes good b.given) (rebuilt-good l a.given m.0 a.was) (rebuilt-good r b.given m.1 b.was)) b.gave
    rebuilt-good (not_of e) d s h =
        let p = and_parts (Shaped (not_of e)) (all_nodes Shaped e) s in
        let a = and_then-ok (rebuilt step e) (λ c. step (not_of c)) d h in
        k (not_of a.given) d p.0 (rebuilt-good e a.given p.1 a.was) a.gave
    rebuilt-good (is_null_of e) d s h =
        let p = and_parts (Shaped (is_null_of e)) (all_nodes Shaped e) s in
        let a = and_then-ok (rebuilt step e) (λ c. step (is_null_of c)) d h in
        k (is_null_of a.given) d p.0 (rebuilt-good e a.given p.1 a.was) a.gave
    rebuilt-good (like e r negated fold_case) d s h =
        let p = and_parts (Shaped (like e r negated fold_case)) (all_nodes Shaped e && all_nodes Shaped r) s in
        let m = and_parts (all_nodes Shaped e) (all_nodes Shaped r) p.1 in
        let a = and_then-ok (rebuilt step e) (λ x. and_then (rebuilt step r) (λ y. step (like x y negated fold_case))) d h in
        let b = and_then-ok (rebuilt step r) (λ y. step (like a.given y negated fold_case)) d a.gave in
        k (like a.given b.given negated fold_case) d p.0
        (and_from (all_nodes good a.given) (all_nodes good b.given) (rebuilt-good e a.given m.0 a.was) (rebuilt-good r b.given m.1 b.was)) b.gave
    rebuilt-good (between e l r options) d s h =
        let p = and_parts (Shaped (between e l r options)) (all_nodes Shaped e && (all_nodes Shaped l && all_nodes Shaped r)) s in
        let m = and_parts (all_nodes Shaped e) (all_nodes Shaped l && all_nodes Shaped r) p.1 in
        let n = and_parts (all_nodes Shaped l) (all_nodes Shaped r) m.1 in
        let a = and_then-ok (rebuilt step e) (λ x. and_then (rebuilt step l) (λ y. and_then (rebuilt step r) (λ z. step (between x y z options)))) d h in
        let b = and_then-ok (rebuilt step l) (λ y. and_then (rebuilt step r) (λ z. step (between a.given y z options))) d a.gave in
        let c = and_then-ok (rebuilt step r) (λ z. step (between a.given b.given z options)) d b.gave in
        k (between a.given b.given c.given options) d p.0
        (and_from (all_nodes good a.given) (all_nodes good b.given && all_nodes good c.given) (rebuilt-good e a.given m.0 a.was)
        (and_from (all_nodes good b.given) (all_nodes good c.given) (rebuilt-good l b.given n.0 b.was) (rebuilt-good r c.given n.1 c.was))) c.gave
    rebuilt-good (cast e t) d s h =
        let p = and_parts (Shaped (cast e t)) (all_nodes Shaped e) s in
        let a = and_then-ok (rebuilt step e) (λ c. step (cast c t)) d h in
        k (cast a.given t) d p.0 (rebuilt-good e a.given p.1 a.was) a.gave
    rebuilt-good (list_contains l r) d s h =
        let p = and_parts (Shaped (list_contains l r)) (all_nodes Shaped l && all_nodes Shaped r) s in
        let m = and_parts (all_nodes Shaped l) (all_nodes Shaped r) p.1 in
        let a = and_then-ok (rebuilt step l) (λ x. and_then (rebuilt step r) (λ y. step (list_contains x y))) d h in
        let b = and_then-ok (rebuilt step r) (λ y. step (list_contains a.given y)) d a.gave in
        k (list_contains a.given b.given) d p.0
        (and_from (all_nodes good a.given) (all_nodes good b.given) (rebuilt-good l a.given m.0 a.was) (rebuilt-good r b.given m.1 b.was)) b.gave
    rebuilt-good (pack names es n) d s h =
        let p = and_parts (Shaped (pack names es n)) (nodes_in Shaped es) s in
        let a = and_then-ok (all_rebuilt step es) (λ cs. step (pack names cs n)) d h in
        k (pack names a.given n) d p.0 (all_rebuilt-good es a.given p.1 a.was) a.gave
    rebuilt-good (merge es n) d s h =
        let p = and_parts (Shaped (merge es n)) (nodes_in Shaped es) s in
        let a = and_then-ok (all_rebuilt step es) (λ cs. step (merge cs n)) d h in
        k (merge a.given n) d p.0 (all_rebuilt-good es a.given p.1 a.was) a.gave
    rebuilt-good (select c e) d s h =
        let p = and_parts (Shaped (select c e)) (all_nodes Shaped e) s in
        let a = and_then-ok (rebuilt step e) (λ x. step (select c x)) d h in
        k (select c a.given) d p.0 (rebuilt-good e a.given p.1 a.was) a.gave
    rebuilt-good (dynamic e op i t default) d s h =
        let p = and_parts (Shaped (dynamic e op i t default)) (all_nodes Shaped e) s in
        let a = and_then-ok (rebuilt step e) (λ c. step (dynamic c op i t default)) d h in
        k (dynamic a.given op i t default) d p.0 (rebuilt-good e a.given p.1 a.was) a.gave

    all_rebuilt-good : (es ds : Trees) → nodes_in Shaped es ≡ true → all_rebuilt step es ≡ Ok ds → nodes_in good ds ≡ true
    all_rebuilt-good no_trees ds s h = subst (λ (z : Trees). nodes_in good z ≡ true) (Ok-same (Ok ds) no_trees ds (sym h) refl) refl
    all_rebuilt-good (tree e es) ds s h =
        let p = and_parts (all_nodes Shaped e) (nodes_in Shaped es) s in
        let a = and_then-ok (rebuilt step e) (λ c. and_then (all_rebuilt step es) (λ cs. Ok (tree c cs))) ds h in
        let b = and_then-ok (all_rebuilt step es) (λ cs. Ok (tree a.given cs)) ds a.gave in
        subst (λ (z : Trees). nodes_in good z ≡ true) (Ok-same (Ok ds) (tree a.given b.given) ds (sym b.gave) refl)
        (and_from (all_nodes good a.given) (nodes_in good b.given) (rebuilt-good e a.given p.0 a.was) (all_rebuilt-good es b.given p.1 b.was))

-- a step that leaves each good node leaves an expression of good nodes
module _ (good : Tree → Bool) (step : Tree → Result Tree Refusal) (k : (n : Tree) → good n ≡ true → step n ≡ Ok n) where
  mutual
    unfolding nodes_below rebuilt

    pub rebuilt-same : (e : Tree) → all_nodes good e ≡ true → rebuilt step e ≡ Ok e
    rebuilt-same root h = k root (and_parts (good root) true h).0
    rebuilt-same (literal c) h = k (literal c) (and_parts (good (literal c)) true h).0
    rebuilt-same (get_item f e) h =
        let p = and_parts (good (get_item f e)) (all_nodes good e) h in
        ap (λ (x : Result Tree Refusal). and_then x (λ c. step (get_item f c))) (rebuilt-same e p.1) ∙ k (get_item f e) p.0
    rebuilt-same (binary l op r) h =
        let p = and_parts (good (binary l op r)) (all_nodes good l && all_nodes good r) h in
        let m = and_parts (all_nodes good l) (all_nodes good r) p.1 in
        ap (λ (x : Result Tree Refusal). and_then x (λ y. and_then (rebuilt step r) (λ z. step (binary y op z)))) (rebuilt-same l m.0)
        ∙ (ap (λ (x : Result Tree Refusal). and_then x (λ z. step (binary l op z))) (rebuilt-same r m.1) ∙ k (binary l op r) p.0)
    rebuilt-same (not_of e) h =
        let p = and_parts (good (not_of e)) (all_nodes good e) h in
        ap (λ (x : Result Tree Refusal). and_then x (λ c. step (not_of c))) (rebuilt-same e p.1) ∙ k (not_of e) p.0
    rebuilt-same (is_null_of e) h =
        let p = and_parts (good (is_null_of e)) (all_nodes good e) h in
        ap (λ (x : Result Tree Refusal). and_then x (λ c. step (is_null_of c))) (rebuilt-same e p.1) ∙ k (is_null_of e) p.0
    rebuilt-same (like e r negated fold_case) h =
        let p = and_parts (good (like e r negated fold_case)) (all_nodes good e && all_nodes good r) h in
        let m = and_parts (all_nodes good e) (all_nodes good r) p.1 in
        ap (λ (x : Result Tree Refusal). and_then x (λ y. and_then (rebuilt step r) (λ z. step (like y z negated fold_case)))) (rebuilt-same e m.0)
        ∙ (ap (λ (x : Result Tree Refusal). and_then x (λ z. step (like e z negated fold_case))) (rebuilt-same r m.1) ∙ k (like e r negated fold_case) p.0)
    rebuilt-same (between e l r options) h =
        let p = and_parts (good (between e l r options)) (all_nodes good e && (all_nodes good l && all_nodes good r)) h in
        let m = and_parts (all_nodes good e) (all_nodes good l && all_nodes good r) p.1 in
        let n = and_parts (all_nodes good l) (all_nodes good r) m.1 in
        ap (λ (x : Result Tree Refusal). and_then x (λ c. and_then (rebuilt step l) (λ y. and_then (rebuilt step r) (λ z. step (between c y z options))))) (rebuilt-same e m.0)
        ∙ (ap (λ (x : Result Tree Refusal). and_then x (λ y. and_then (rebuilt step r) (λ z. step (between e y z options)))) (rebuilt-same l n.0)
        ∙ (ap (λ (x : Result Tree Refusal). and_then x (λ z. step (between e l z options))) (rebuilt-same r n.1) ∙ k (between e l r options) p.0))
    rebuilt-same (cast e t) h =
        let p = and_parts (good (cast e t)) (all_nodes good e) h in
        ap (λ (x : Result Tree Refusal). and_then x (λ c. step (cast c t))) (rebuilt-same e p.1) ∙ k (cast e t) p.0
    rebuilt-same (list_contains l r) h =
        let p = and_parts (good (list_contains l r)) (all_nodes good l && all_nodes good r) h in
        let m = and_parts (all_nodes good l) (all_nodes good r) p.1 in
        ap (λ (x : Result Tree Refusal). and_then x (λ y. and_then (rebuilt step r) (λ z. step (list_contains y z)))) (rebuilt-same l m.0)
        ∙ (ap (λ (x : Result Tree Refusal). and_then x (λ z. step (list_contains l z))) (rebuilt-same r m.1) ∙ k (list_contains l r) p.0)
    rebuilt-same (pack names es n) h =
        let p = and_parts (good (pack names es n)) (nodes_in good es) h in
        ap (λ (x : Result Trees Refusal). and_then x (λ cs. step (pack names cs n))) (all_rebuilt-same es p.1) ∙ k (pack names es n) p.0
    rebuilt-same (merge es n) h =
        let p = and_parts (good (merge es n)) (nodes_in good es) h in
        ap (λ (x : Result Trees Refusal). and_then x (λ cs. step (merge cs n))) (all_rebuilt-same es p.1) ∙ k (merge es n) p.0
    rebuilt-same (select s e) h =
        let p = and_parts (good (select s e)) (all_nodes good e) h in
        ap (λ (x : Result Tree Refusal). and_then x (λ c. step (select s c))) (rebuilt-same e p.1) ∙ k (select s e) p.0
    rebuilt-same (dynamic e op i t default) h =
        let p = and_parts (good (dynamic e op i t default)) (all_nodes good e) h in
        ap (λ (x : Result Tree Refusal). and_then x (λ c. step (dynamic c op i t default))) (rebuilt-same e p.1) ∙ k (dynamic e op i t default) p.0

    all_rebuilt-same : (es : Trees) → nodes_in good es ≡ true → all_rebuilt step es ≡ Ok es
    all_rebuilt-same no_trees h = refl
    all_rebuilt-same (tree e es) h =
        let p = and_parts (all_nodes good e) (nodes_in good es) h in
        ap (λ (x : Result Tree Refusal). and_then x (λ c. and_then (all_rebuilt step es) (λ cs. Ok (tree c cs)))) (rebuilt-same e p.0)
        ∙ ap (λ (x : Result Trees Refusal). and_then x (λ cs. Ok (tree e cs))) (all_rebuilt-same es p.1)

-- selects go
all-pass : (good : Tree → Bool) (n d : Tree) → good n ≡ true → nodes_below good n ≡ true → ◌≡◌ {A = Result Tree Refusal} (Ok n) (Ok d) → all_nodes good d ≡ true
all-pass good n d g h e = subst (λ (z : Tree). all_nodes good z ≡ true) (Ok-same (Ok d) n d (sym e) refl) (and_from (good n) (nodes_below good n) g h)

items-good : (good : Tree → Bool) (item : Bytes → Tree) → ((f : Bytes) → all_nodes good (item f) ≡ true) → (names : List Bytes) → nodes_in good (trees_of (map item names)) ≡ true
unfolding nodes_below
items-good good item k [] = refl
items-good good item k (f ∷ names) = and_from (all_nodes good (item f)) (nodes_in good (trees_of (map item names))) (k f) (items-good good item k names)

select-pack-good : (s : FieldSelection) (e : Tree) (a : Ty) (d : Tree) → all_nodes (shaped no_select) e ≡ true → select_as_pack s e a ≡ Ok d → all_nodes (shaped no_select) d ≡ true
unfolding nodes_below
select-pack-good s e (struct_ty fs NonNullable) d g h = by-names (names_where_known s (field_names fs)) h
  where
    by-names : (p : Option (List Bytes)) → fields_pack e p ≡ Ok d → all_nodes (shaped no_select) d ≡ true
    by-names None i = let no : ⊥ = cc in absurd no
    by-names (Some names) i =
        subst (λ (z : Tree). all_nodes (shaped no_select) z ≡ true) (Ok-same (Ok d) (pack names (trees_of (map (λ f. get_item f e) names)) NonNullable) d (sym i) refl)
        (items-good (shaped no_select) (λ f. get_item f e) (λ f. g) names)
select-pack-good s e (struct_ty fs Nullable) d g h = let no : ⊥ = cc in absurd no
select-pack-good s e _ d g h = let no : ⊥ = cc in absurd no

select_removed-good : (t : Ty) → MakesGood any_shape (shaped no_select) (select_removed t)
unfolding nodes_below
select_removed-good t (select s e) d q g h = let a = and_then-ok (loosely_typed t e) (select_as_pack s e) d h in select-pack-good s e a.given d g a.gave
select_removed-good t n d q g h = all-pass (shaped no_select) n d refl g h

pub without_select-good : (t : Ty) (e d : Tree) → without_select t e ≡ Ok d → all_nodes (shaped no_select) d ≡ true
without_select-good t e d h = rebuilt-good any_shape (shaped no_select) (select_removed t) (select_removed-good t) e d (any_below e) h

-- merges go, where there are no selects
AllGood : List Giving → Type 0
AllGood [] = Unit {0}
AllGood (x ∷ xs) = (all_nodes (shaped neither) x.expression ≡ true) × AllGood xs

giving_of-good : (e : Tree) (a : Ty) (x : Giving) → giving_of e a ≡ Ok x → x.expression ≡ e
giving_of-good e (struct_ty fs n) x h = let same : record { names = field_names fs; expression = e } ≡ x = Ok-same (Ok x) (record { names = field_names fs; expression = e }) x (sym h) refl in ap (λ (z : Giving). z.expression) (sym same)
giving_of-good e _ x h = let no : ⊥ = cc in absurd no

givings-good : (t : Ty) (es : Trees) (gs : List Giving) → nodes_in (shaped neither) es ≡ true → givings t es ≡ Ok gs → AllGood gs
unfolding nodes_below AllGood
givings-good t no_trees gs g h = subst AllGood (Ok-same (Ok gs) [] gs (sym h) refl) tt
givings-good t (tree e es) gs g h =
    let p = and_parts (all_nodes (shaped neither) e) (nodes_in (shaped neither) es) g in
    let a = and_then-ok (and_then (loosely_typed t e) (giving_of e)) (λ x. and_then (givings t es) (λ xs. Ok (x ∷ xs))) gs h in
    let b = and_then-ok (givings t es) (λ xs. Ok (a.given ∷ xs)) gs a.gave in
    let c = and_then-ok (loosely_typed t e) (giving_of e) a.given a.was in
    subst AllGood (Ok-same (Ok gs) (a.given ∷ b.given) gs (sym b.gave) refl)
    (subst (λ (z : Tree). all_nodes (shaped neither) z ≡ true) (sym (giving_of-good e c.given a.given c.gave)) p.0, givings-good t es b.given p.1 b.was)

giver-good : (f : Bytes) (gs : List Giving) → AllGood gs → all_nodes (shaped neither) (unwrap_or (option_map (λ y. y.expression) (last_giver giving_names f gs)) root) ≡ true
unfolding nodes_below AllGood
giver-good f [] h = refl
giver-good f (x ∷ gs) h = by-last (last_giver giving_names f gs) (has_name f x.names) (giver-good f gs h.1)
  where
    by-last : (p : Option Giving) (b : Bool) → all_nodes (shaped neither) (unwrap_or (option_map (λ (y : Giving). y.expression) p) root) ≡ true
        → all_nodes (shaped neither) (unwrap_or (option_map (λ (y : Giving). y.expression) (option_or p (cond b (Some x) None))) root) ≡ true
    by-last (Some z) b r = r
    by-last None true r = h.0
    by-last None false r = refl

merge_removed-good : (t : Ty) → MakesGood no_select (shaped neither) (merge_removed t)
unfolding nodes_below
merge_removed-good t (merge es n) d q g h =
    let a = and_then-ok (givings t es) (λ gs. Ok (givings_pack n gs)) d h in
    subst (λ (z : Tree). all_nodes (shaped neither) z ≡ true) (Ok-same (Ok d) (givings_pack n a.given) d (sym a.gave) refl)
    (items-good (shaped neither) (given_field a.given) (λ f. giver-good f a.given (givings-good t es a.given g a.was)) (merged_names giving_names a.given))
merge_removed-good t (select s e) d q g h = let no : ⊥ = cc in absurd no
merge_removed-good t n d q g h = all-pass (shaped neither) n d refl g h

pub without_merge-good : (t : Ty) (e d : Tree) → all_nodes (shaped no_select) e ≡ true → without_merge t e ≡ Ok d → all_nodes (shaped neither) d ≡ true
without_merge-good t e d s h = rebuilt-good no_select (shaped neither) (merge_removed t) (merge_removed-good t) e d s h

-- fields straight on packs go, where there are neither selects nor merges
packed-good : (f : Bytes) (names : List Bytes) (es : Trees) (d : Tree) → nodes_in is_simple es ≡ true → known_field (packed_value f names es) ≡ Ok d → all_nodes is_simple d ≡ true
unfolding nodes_below
packed-good f [] es d g h = let no : ⊥ = cc in absurd no
packed-good f (n ∷ names) no_trees d g h = let no : ⊥ = cc in absurd no
packed-good f (n ∷ names) (tree e es) d g h =
    let p = and_parts (all_nodes is_simple e) (nodes_in is_simple es) g in by-test (bytes_eq f n) h p.0 (packed-good f names es d p.1)
  where
    by-test : (b : Bool) → known_field (cond b (Some e) (packed_value f names es)) ≡ Ok d → all_nodes is_simple e ≡ true
        → (known_field (packed_value f names es) ≡ Ok d → all_nodes is_simple d ≡ true) → all_nodes is_simple d ≡ true
    by-test true i j r = subst (λ (z : Tree). all_nodes is_simple z ≡ true) (Ok-same (Ok d) e d (sym i) refl) j
    by-test false i j r = r i

field_of_pack-good : MakesGood neither is_simple field_of_pack
unfolding nodes_below
field_of_pack-good (get_item f (pack names es n)) d q g h = packed-good f names es d g h
field_of_pack-good (get_item f e) d q g h = all-pass is_simple (get_item f e) d refl g h
field_of_pack-good (select s e) d q g h = let no : ⊥ = cc in absurd no
field_of_pack-good (merge es n) d q g h = let no : ⊥ = cc in absurd no
field_of_pack-good n d q g h = all-pass is_simple n d refl g h

pub without_packed_fields-good : (e d : Tree) → all_nodes (shaped neither) e ≡ true → without_packed_fields e ≡ Ok d → all_nodes is_simple d ≡ true
without_packed_fields-good e d s h = rebuilt-good neither is_simple field_of_pack field_of_pack-good e d s h

-- what has simple nodes alone stays as it is
select-stays : (t : Ty) (n : Tree) → is_simple n ≡ true → select_removed t n ≡ Ok n
select-stays t (select s e) h = let no : ⊥ = cc in absurd no
select-stays t n h = refl

merge-stays : (t : Ty) (n : Tree) → is_simple n ≡ true → merge_removed t n ≡ Ok n
merge-stays t (merge es m) h = let no : ⊥ = cc in absurd no
merge-stays t n h = refl

field-stays : (n : Tree) → is_simple n ≡ true → field_of_pack n ≡ Ok n
field-stays (get_item f (pack names es m)) h = let no : ⊥ = cc in absurd no
field-stays n h = refl

pub without_select-stays : (t : Ty) (e : Tree) → all_nodes is_simple e ≡ true → without_select t e ≡ Ok e
without_select-stays t e h = rebuilt-same is_simple (select_removed t) (select-stays t) e h

pub without_merge-stays : (t : Ty) (e : Tree) → all_nodes is_simple e ≡ true → without_merge t e ≡ Ok e
without_merge-stays t e h = rebuilt-same is_simple (merge_removed t) (merge-stays t) e h

pub without_packed_fields-stays : (e : Tree) → all_nodes is_simple e ≡ true → without_packed_fields e ≡ Ok e
without_packed_fields-stays e h = rebuilt-same is_simple field_of_pack field-stays e h

-- ---- each pass by itself

abbrev pub no_merge : Shape → Bool
no_merge a_merge = false
no_merge _ = true

-- without selects, an expression stays where selects go; and so without merges where merges go
select-gone : (t : Ty) (n : Tree) → shaped no_select n ≡ true → select_removed t n ≡ Ok n
select-gone t (select s e) h = let no : ⊥ = cc in absurd no
select-gone t n h = refl

merge-gone : (t : Ty) (n : Tree) → shaped no_merge n ≡ true → merge_removed t n ≡ Ok n
merge-gone t (merge es m) h = let no : ⊥ = cc in absurd no
merge-gone t n h = refl

pub without_select-twice : (t : Ty) (e d : Tree) → without_select t e ≡ Ok d → without_select t d ≡ Ok d
without_select-twice t e d h = rebuilt-same (shaped no_select) (select_removed t) (select-gone t) d (without_select-good t e d h)

-- merges go, whatever else stands there
AllMergeless : List Giving → Type 0
AllMergeless [] = Unit {0}
AllMergeless (x ∷ xs) = (all_nodes (shaped no_merge) x.expression ≡ true) × AllMergeless xs

givings-mergeless : (t : Ty) (es : Trees) (gs : List Giving) → nodes_in (shaped no_merge) es ≡ true → givings t es ≡ Ok gs → AllMergeless gs
unfolding nodes_below AllMergeless
givings-mergeless t no_trees gs g h = subst AllMergeless (Ok-same (Ok gs) [] gs (sym h) refl) tt
givings-mergeless t (tree e es) gs g h =
    let p = and_parts (all_nodes (shaped no_merge) e) (nodes_in (shaped no_merge) es) g in
    let a = and_then-ok (and_then (loosely_typed t e) (giving_of e)) (λ x. and_then (givings t es) (λ xs. Ok (x ∷ xs))) gs h in
    let b = and_then-ok (givings t es) (λ xs. Ok (a.given ∷ xs)) gs a.gave in
    let c = and_then-ok (loosely_typed t e) (giving_of e) a.given a.was in
    subst AllMergeless (Ok-same (Ok gs) (a.given ∷ b.given) gs (sym b.gave) refl)
    (subst (λ (z : Tree). all_nodes (shaped no_merge) z ≡ true) (sym (giving_of-good e c.given a.given c.gave)) p.0, givings-mergeless t es b.given p.1 b.was)

giver-mergeless : (f : Bytes) (gs : List Giving) → AllMergeless gs
    → all_nodes (shaped no_merge) (unwrap_or (option_map (λ y. y.expression) (last_giver giving_names f gs)) root) ≡ true
unfolding nodes_below AllMergeless
giver-mergeless f [] h = refl
giver-mergeless f (x ∷ gs) h = by-last (last_giver giving_names f gs) (has_name f x.names) (giver-mergeless f gs h.1)
  where
    by-last : (p : Option Giving) (b : Bool) → all_nodes (shaped no_merge) (unwrap_or (option_map (λ (y : Giving). y.expression) p) root) ≡ true
        → all_nodes (shaped no_merge) (unwrap_or (option_map (λ (y : Giving). y.expression) (option_or p (cond b (Some x) None))) root) ≡ true
    by-last (Some z) b r = r
    by-last None true r = h.0
    by-last None false r = refl

merge_removed-mergeless : (t : Ty) → MakesGood any_shape (shaped no_merge) (merge_removed t)
unfolding nodes_below
merge_removed-mergeless t (merge es n) d q g h =
    let a = and_then-ok (givings t es) (λ gs. Ok (givings_pack n gs)) d h in
    subst (λ (z : Tree). all_nodes (shaped no_merge) z ≡ true) (Ok-same (Ok d) (givings_pack n a.given) d (sym a.gave) refl)
    (items-good (shaped no_merge) (given_field a.given) (λ f. giver-mergeless f a.given (givings-mergeless t es a.given g a.was)) (merged_names giving_names a.given))
merge_removed-mergeless t n d q g h = all-pass (shaped no_merge) n d refl g h

pub without_merge-twice : (t : Ty) (e d : Tree) → without_merge t e ≡ Ok d → without_merge t d ≡ Ok d
without_merge-twice t e d h =
    rebuilt-same (shaped no_merge) (merge_removed t) (merge-gone t) d
    (rebuilt-good any_shape (shaped no_merge) (merge_removed t) (merge_removed-mergeless t) e d (any_below e) h)

-- fields straight on packs go, whatever else stands there
abbrev pub is_unpacked : Tree → Bool
is_unpacked (get_item f (pack names es n)) = false
is_unpacked _ = true

unpacked-good : (f : Bytes) (names : List Bytes) (es : Trees) (d : Tree) → nodes_in is_unpacked es ≡ true → known_field (packed_value f names es) ≡ Ok d
    → all_nodes is_unpacked d ≡ true
unfolding nodes_below
unpacked-good f [] es d g h = let no : ⊥ = cc in absurd no
unpacked-good f (n ∷ names) no_trees d g h = let no : ⊥ = cc in absurd no
unpacked-good f (n ∷ names) (tree e es) d g h =
    let p = and_parts (all_nodes is_unpacked e) (nodes_in is_unpacked es) g in by-test (bytes_eq f n) h p.0 (unpacked-good f names es d p.1)
  where
    by-test : (b : Bool) → known_field (cond b (Some e) (packed_value f names es)) ≡ Ok d → all_nodes is_unpacked e ≡ true
        → (known_field (packed_value f names es) ≡ Ok d → all_nodes is_unpacked d ≡ true) → all_nodes is_unpacked d ≡ true
    by-test true i j r = subst (λ (z : Tree). all_nodes is_unpacked z ≡ true) (Ok-same (Ok d) e d (sym i) refl) j
    by-test false i j r = r i

field_of_pack-unpacked : MakesGood any_shape is_unpacked field_of_pack
unfolding nodes_below
field_of_pack-unpacked (get_item f (pack names es n)) d q g h = unpacked-good f names es d g h
field_of_pack-unpacked (get_item f e) d q g h = all-pass is_unpacked (get_item f e) d refl g h
field_of_pack-unpacked n d q g h = all-pass is_unpacked n d refl g h

field-gone : (n : Tree) → is_unpacked n ≡ true → field_of_pack n ≡ Ok n
field-gone (get_item f (pack names es m)) h = let no : ⊥ = cc in absurd no
field-gone n h = refl

pub without_packed_fields-unpacked : (e d : Tree) → without_packed_fields e ≡ Ok d → all_nodes is_unpacked d ≡ true
without_packed_fields-unpacked e d h = rebuilt-good any_shape is_unpacked field_of_pack field_of_pack-unpacked e d (any_below e) h

pub unpacked-stays : (e : Tree) → all_nodes is_unpacked e ≡ true → without_packed_fields e ≡ Ok e
unpacked-stays e h = rebuilt-same is_unpacked field_of_pack field-gone e h
