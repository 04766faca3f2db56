-- Expressions in whose place another keeps the type but for nullability, the slots, the meaning and what is seen along each path of the type.
use Rattle.std.proofs.Common.{◌≡◌, ℕ, refl, ap, sym, ◌∙◌, Bool, true, false, cond, ◌&&◌, ◌||◌, Option, Some, None, subst, List, [], ◌∷◌, ◌++◌, Result, Ok}
use Rattle.std.specs.Prelude.{option_map}
use Rattle.std.specs.Str.{bytes_eq}
use Rattle.std.specs.List.{list_any, flat_map, AllByRecursion}
use Rattle.std.proofs.lemmas.Bool.{and_parts, and_from}
use Rattle.vx_dtype.specs.declared.BetweenOptions.{BetweenOptions}
use Rattle.vx_dtype.specs.declared.CompareOperator.{CompareOperator}
use Rattle.vx_dtype.specs.declared.Nullability.{Nullability}
use Rattle.vx_dtype.specs.declared.Nullability.TheVariants.{NonNullable}
use Rattle.vx_dtype.specs.Types.{Bytes, Ty, bool_ty, Fields}
use Rattle.vx_dtype.specs.TypeRules.{is_nullable, nullability_of, widened, fields_of, field_names, field_type, has_name}
use Rattle.vx_dtype.specs.Values.{Val, struct_val, no_members}
use Rattle.vx_dtype.specs.Zipped.{zipped}
use Rattle.vx_dtype.specs.Logic.{not3, is_null3}
use Rattle.vx_dtype.specs.Order.{between3}
use Rattle.vx_dtype.specs.Like.{like3}
use Rattle.vx_dtype.specs.Casts.{cast3}
use Rattle.vx_dtype.specs.Lists.{contains3}
use Rattle.vx_dtype.specs.Structs.{field_of, first_names}
use Rattle.vx_expr.specs.declared.Operator.{Operator}
use Rattle.vx_expr.specs.declared.FieldSelection.{FieldSelection}
use Rattle.vx_expr.specs.Slots.{slot_held}
use Rattle.vx_expr.specs.Trees.{Tree, root, literal, get_item, binary, not_of, is_null_of, like, between, cast, list_contains, pack, merge, select, dynamic, Trees, no_trees, tree}
use Rattle.vx_semantics.specs.Typing.{Refusal, and_then, item_type, selected_fields, select_type, pack_type, names_in, type_in, merged_type_at, merged_fields_at, merge_type, binary_type, not_type, like_type, between_type, contains_type, cast_type, dynamic_type, typed_of, all_typed, type_or_empty, given_names}
use Rattle.vx_semantics.specs.Meaning.{Slots, Source, source_names, binary3, dynamic3, slot_value, select3, merged, zip_members, mean, meanings, sources}
use Rattle.vx_semantics.specs.Merging.{merged_names}
use Rattle.vx_semantics.specs.Asked.{Asking, asks_node, giver_names, givers, each_asked, path_or_each, asked, asked_in_pack, asked_of_giver}
use Rattle.vx_semantics.specs.Slots.{held_fits, slots_fit, all_slots_fit}
use Rattle.vx_passes.specs.Rebuilding.{rebuilt, all_rebuilt}
use Rattle.vx_laws.proofs.Inverting.{and_then-ok, Ok-same}
use Rattle.vx_laws.proofs.Merging.{some_gives, merged_type_at-step, asked_of_giver-step, givers-same, giver_names-same}
use Rattle.vx_laws.proofs.Structs.{item_type-ok, select_type-ok, has_field, all-own_names}
use Rattle.vx_laws.proofs.Distinct.{field_names-merged}
use Rattle.vx_laws.proofs.Lookups.{merged_fields-type, select-chosen}
use Rattle.vx_laws.proofs.Faultless.{merge_type-ok, pack_type-ok, names_in-select, type_in-named}
use Rattle.vx_laws.proofs.Paths.{in_option, path_in, first_of_path, path_in-first, path_in-widened}
use Rattle.vx_laws_simplifying.proofs.Observing.{Observes, seen, seen-both, is_still}
use Rattle.vx_laws_simplifying.specs.Narrowing.{no_more_nullable}
use Rattle.vx_laws_simplifying.proofs.Under.{bools, UnderList, ended, further, Ranked, under-own, null-under, names_in-under, item-under, binary-under, not-under, like-under, between-under, cast-under, contains-under, dynamic-under, select-under, pack-under, merge-under}
use Rattle.vx_laws_simplifying.proofs.Narrows.{narrowing, Narrow, narrow-then, path_in-narrow, not_nullable}
use Rattle.vx_laws.proofs.GivenNames.{gives-typed, names-typed}

-- a path in a field's type leads through the field
pub path-item : (f : Bytes) (path : List Bytes) (a u : Ty) → item_type f a ≡ Ok u → path_in path u ≡ true → path_in (f ∷ path) a ≡ true
path-item f path a u h p =
    let k = item_type-ok f a u h in
    let inner : path_in path k.own ≡ true = sym (path_in-widened path k.own k.nullability) ∙ subst (λ (z : Ty). path_in path z ≡ true) k.gives p in
    subst (λ (z : Ty). path_in (f ∷ path) z ≡ true) (sym k.is) (path_in-first f path k.fields k.own k.found inner)

pub path-type_in : (f : Bytes) (path : List Bytes) (a w : Ty) → type_in f a ≡ Some w → path_in path w ≡ true → path_in (f ∷ path) a ≡ true
path-type_in f path a w e p = by-type (field_type f (fields_of a)) refl e
  where
    by-type : (o : Option Ty) → field_type f (fields_of a) ≡ o → option_map (λ (v : Ty). widened v (nullability_of a)) o ≡ Some w → path_in (f ∷ path) a ≡ true
    by-type None j k = let no : ⊥ = cc in absurd no
    by-type (Some v) j k =
        let same : widened v (nullability_of a) ≡ w = cc in
        path_in-first f path (fields_of a) v j (sym (path_in-widened path v (nullability_of a)) ∙ subst (λ (z : Ty). path_in path z ≡ true) (sym same) p)

-- a path in a selected struct's type leads through the struct
pub path-selected : (s : FieldSelection) (f : Bytes) (path : List Bytes) (a u : Ty) → select_type s a ≡ Ok u → path_in (f ∷ path) u ≡ true → path_in (f ∷ path) a ≡ true
path-selected s f path a u h p =
    let k = select_type-ok s a u h in
    let first = first_of_path f path (selected_fields s k.fields) (subst (λ (z : Ty). path_in (f ∷ path) z ≡ true) k.gives p) in
    let chosen = select-chosen s f k.fields no_members first.own first.found in
    subst (λ (z : Ty). path_in (f ∷ path) z ≡ true) (sym k.is) (path_in-first f path k.fields first.own chosen.type first.rest)

-- two tests that hold where two others do
and-implied : (a b c d : Bool) → (a ≡ true → c ≡ true) → (b ≡ true → d ≡ true) → (a && b) ≡ true → (c && d) ≡ true
and-implied a b c d f g h = let p = and_parts a b h in and_from c d (f p.0) (g p.1)

module _ (t : Ty) (slots : Slots) (row : Val) (test : Asking → Bool) (o : Observes t slots row test) where
  -- another expression in the place of one of this type
  pub record Kept (e d : Tree) (u : Ty) : Type 0 where
    pub was : typed_of t e ≡ Ok u
    pub ty : Ty
    pub typed : typed_of t d ≡ Ok ty
    pub narrow : Narrow ty u
    pub fitting : slots_fit slots e ≡ true → slots_fit slots d ≡ true
    pub means : mean t slots row d ≡ mean t slots row e
    pub sees : (path : List Bytes) → path_in path u ≡ true → seen test t d path ≡ seen test t e path

  pub kept-own : (e : Tree) (u : Ty) → typed_of t e ≡ Ok u → Kept e e u
  kept-own e u h = record { was = h; ty = u; typed = h; narrow = under-own no_more_nullable narrowing u; fitting = λ s. s; means = refl; sees = λ path p. refl }

  pub kept-then : (e n d : Tree) (u : Ty) (k : Kept e n u) → Kept n d k.ty → Kept e d u
  kept-then e n d u k m = record {
    was = k.was;
    ty = m.ty;
    typed = m.typed;
    narrow = narrow-then m.ty k.ty u m.narrow k.narrow;
    fitting = λ s. m.fitting (k.fitting s);
    means = m.means ∙ k.means;
    sees = λ path p. m.sees path (path_in-narrow path k.ty u k.narrow ∙ p) ∙ k.sees path p;
  }

  -- a node shows itself and what is asked below
  pub node-same : (n m : Tree) (xs ys : List Asking) → test (asks_node n) ≡ test (asks_node m) → list_any test xs ≡ list_any test ys → list_any test (asks_node n ∷ xs) ≡ list_any test (asks_node m ∷ ys)
  node-same n m xs ys h k = ap (λ (b : Bool). b || list_any test xs) h ∙ ap (λ (b : Bool). test (asks_node m) || b) k

  pub still-same : (n m : Tree) (xs ys : List Asking) → is_still n ≡ true → is_still m ≡ true → list_any test xs ≡ list_any test ys → list_any test (asks_node n ∷ xs) ≡ list_any test (asks_node m ∷ ys)
  still-same n m xs ys h k r = node-same n m xs ys (o.still n h ∙ sym (o.still m k)) r

  pub two-same : (xs xz ys yz : List Asking) → list_any test xs ≡ list_any test xz → list_any test ys ≡ list_any test yz → list_any test (xs ++ ys) ≡ list_any test (xz ++ yz)
  two-same xs xz ys yz h k = seen-both test xs ys ∙ (ap (λ (b : Bool). b || list_any test ys) h ∙ (ap (λ (b : Bool). list_any test xz || b) k ∙ sym (seen-both test xz yz)))

  kept-get_item : (f : Bytes) (e d : Tree) (a u : Ty) → item_type f a ≡ Ok u → Kept e d a → Kept (get_item f e) (get_item f d) u
  unfolding typed_of mean asked slots_fit
  kept-get_item f e d a u h k =
      let r = item-under no_more_nullable narrowing f k.ty a u k.narrow h in
      record {
        was = ap (λ (x : Result Ty Refusal). and_then x (item_type f)) k.was ∙ h;
        ty = r.ty;
        typed = ap (λ (x : Result Ty Refusal). and_then x (item_type f)) k.typed ∙ r.is;
        narrow = r.under;
        fitting = k.fitting;
        means = ap (field_of f) k.means;
        sees = λ path p. still-same (get_item f d) (get_item f e) (asked t d (f ∷ path)) (asked t e (f ∷ path)) refl refl (k.sees (f ∷ path) (path-item f path a u h p));
      }

  kept-binary : (op : Operator) (l k r q : Tree) (a b u : Ty) → binary_type op a b ≡ Ok u → Kept l k a → Kept r q b → Kept (binary l op r) (binary k op q) u
  unfolding typed_of mean asked slots_fit
  kept-binary op l k r q a b u h x y =
      let made = binary-under no_more_nullable narrowing op x.ty a y.ty b u x.narrow y.narrow h in
      record {
        was = ap (λ (z : Result Ty Refusal). and_then z (λ c. and_then (typed_of t r) (binary_type op c))) x.was ∙ (ap (λ (z : Result Ty Refusal). and_then z (binary_type op a)) y.was ∙ h);
        ty = made.ty;
        typed = ap (λ (z : Result Ty Refusal). and_then z (λ c. and_then (typed_of t q) (binary_type op c))) x.typed
            ∙ (ap (λ (z : Result Ty Refusal). and_then z (binary_type op x.ty)) y.typed ∙ made.is);
        narrow = made.under;
        fitting = and-implied (slots_fit slots l) (slots_fit slots r) (slots_fit slots k) (slots_fit slots q) x.fitting y.fitting;
        means = ap (λ (v : Val). binary3 op v (mean t slots row q)) x.means ∙ ap (binary3 op (mean t slots row l)) y.means;
        sees = λ path p. node-same (binary k op q) (binary l op r) (asked t k [] ++ asked t q []) (asked t l [] ++ asked t r []) (o.sums k l op q r x.means y.means)
            (two-same (asked t k []) (asked t l []) (asked t q []) (asked t r []) (x.sees [] refl) (y.sees [] refl));
      }

  kept-not : (e d : Tree) (a u : Ty) → not_type a ≡ Ok u → Kept e d a → Kept (not_of e) (not_of d) u
  unfolding typed_of mean asked slots_fit
  kept-not e d a u h k =
      let r = not-under no_more_nullable narrowing k.ty a u k.narrow h in
      record {
        was = ap (λ (x : Result Ty Refusal). and_then x not_type) k.was ∙ h;
        ty = r.ty;
        typed = ap (λ (x : Result Ty Refusal). and_then x not_type) k.typed ∙ r.is;
        narrow = r.under;
        fitting = k.fitting;
        means = ap not3 k.means;
        sees = λ path p. still-same (not_of d) (not_of e) (asked t d []) (asked t e []) refl refl (k.sees [] refl);
      }

  kept-is_null : (e d : Tree) (a : Ty) → Kept e d a → Kept (is_null_of e) (is_null_of d) (bool_ty NonNullable)
  unfolding typed_of mean asked slots_fit
  kept-is_null e d a k = record {
    was = ap (λ (x : Result Ty Refusal). and_then x (λ b. Ok (bool_ty NonNullable))) k.was;
    ty = bool_ty NonNullable;
    typed = ap (λ (x : Result Ty Refusal). and_then x (λ b. Ok (bool_ty NonNullable))) k.typed;
    narrow = bools NonNullable NonNullable refl;
    fitting = k.fitting;
    means = ap is_null3 k.means;
    sees = λ path p. still-same (is_null_of d) (is_null_of e) (asked t d []) (asked t e []) refl refl (k.sees [] refl);
  }

  kept-like : (negated fold_case : Bool) (l k r q : Tree) (a b u : Ty) → like_type a b ≡ Ok u → Kept l k a → Kept r q b → Kept (like l r negated fold_case) (like k q negated fold_case) u
  unfolding typed_of mean asked slots_fit
  kept-like negated fold_case l k r q a b u h x y =
      let made = like-under no_more_nullable narrowing x.ty a y.ty b u x.narrow y.narrow h in
      record {
        was = ap (λ (z : Result Ty Refusal). and_then z (λ c. and_then (typed_of t r) (like_type c))) x.was ∙ (ap (λ (z : Result Ty Refusal). and_then z (like_type a)) y.was ∙ h);
        ty = made.ty;
        typed = ap (λ (z : Result Ty Refusal). and_then z (λ c. and_then (typed_of t q) (like_type c))) x.typed ∙ (ap (λ (z : Result Ty Refusal). and_then z (like_type x.ty)) y.typed ∙ made.is);
        narrow = made.under;
        fitting = and-implied (slots_fit slots l) (slots_fit slots r) (slots_fit slots k) (slots_fit slots q) x.fitting y.fitting;
        means = ap (λ (v : Val). like3 negated fold_case v (mean t slots row q)) x.means ∙ ap (like3 negated fold_case (mean t slots row l)) y.means;
        sees = λ path p. still-same (like k q negated fold_case) (like l r negated fold_case) (asked t k [] ++ asked t q []) (asked t l [] ++ asked t r []) refl refl
            (two-same (asked t k []) (asked t l []) (asked t q []) (asked t r []) (x.sees [] refl) (y.sees [] refl));
      }

  kept-contains : (l k r q : Tree) (a b u : Ty) → contains_type a b ≡ Ok u → Kept l k a → Kept r q b → Kept (list_contains l r) (list_contains k q) u
  unfolding typed_of mean asked slots_fit
  kept-contains l k r q a b u h x y =
      let made = contains-under no_more_nullable narrowing x.ty a y.ty b u x.narrow y.narrow h in
      record {
        was = ap (λ (z : Result Ty Refusal). and_then z (λ c. and_then (typed_of t r) (contains_type c))) x.was ∙ (ap (λ (z : Result Ty Refusal). and_then z (contains_type a)) y.was ∙ h);
        ty = made.ty;
        typed = ap (λ (z : Result Ty Refusal). and_then z (λ c. and_then (typed_of t q) (contains_type c))) x.typed
            ∙ (ap (λ (z : Result Ty Refusal). and_then z (contains_type x.ty)) y.typed ∙ made.is);
        narrow = made.under;
        fitting = and-implied (slots_fit slots l) (slots_fit slots r) (slots_fit slots k) (slots_fit slots q) x.fitting y.fitting;
        means = ap (λ (v : Val). contains3 v (mean t slots row q)) x.means ∙ ap (contains3 (mean t slots row l)) y.means;
        sees = λ path p. still-same (list_contains k q) (list_contains l r) (asked t k [] ++ asked t q []) (asked t l [] ++ asked t r []) refl refl
            (two-same (asked t k []) (asked t l []) (asked t q []) (asked t r []) (x.sees [] refl) (y.sees [] refl));
      }

  kept-between : (options : BetweenOptions) (e d l k r q : Tree) (w a b u : Ty) → between_type w a b ≡ Ok u → Kept e d w → Kept l k a → Kept r q b → Kept (between e l r options) (between d k q options) u
  unfolding typed_of mean asked slots_fit
  kept-between options e d l k r q w a b u h v x y =
      let made = between-under no_more_nullable narrowing v.ty w x.ty a y.ty b u v.narrow x.narrow y.narrow h in
      record {
        was = ap (λ (z : Result Ty Refusal). and_then z (λ c. and_then (typed_of t l) (λ f. and_then (typed_of t r) (between_type c f)))) v.was
            ∙ (ap (λ (z : Result Ty Refusal). and_then z (λ f. and_then (typed_of t r) (between_type w f))) x.was ∙ (ap (λ (z : Result Ty Refusal). and_then z (between_type w a)) y.was ∙ h));
        ty = made.ty;
        typed = ap (λ (z : Result Ty Refusal). and_then z (λ c. and_then (typed_of t k) (λ f. and_then (typed_of t q) (between_type c f)))) v.typed
            ∙ (ap (λ (z : Result Ty Refusal). and_then z (λ f. and_then (typed_of t q) (between_type v.ty f))) x.typed
            ∙ (ap (λ (z : Result Ty Refusal). and_then z (between_type v.ty x.ty)) y.typed ∙ made.is));
        narrow = made.under;
        fitting = and-implied (slots_fit slots e) (slots_fit slots l && slots_fit slots r) (slots_fit slots d) (slots_fit slots k && slots_fit slots q) v.fitting
            (and-implied (slots_fit slots l) (slots_fit slots r) (slots_fit slots k) (slots_fit slots q) x.fitting y.fitting);
        means = ap (λ (z : Val). between3 options z (mean t slots row k) (mean t slots row q)) v.means
            ∙ (ap (λ (z : Val). between3 options (mean t slots row e) z (mean t slots row q)) x.means ∙ ap (between3 options (mean t slots row e) (mean t slots row l)) y.means);
        sees = λ path p. still-same (between d k q options) (between e l r options) (asked t d [] ++ (asked t k [] ++ asked t q [])) (asked t e [] ++ (asked t l [] ++ asked t r [])) refl refl
            (two-same (asked t d []) (asked t e []) (asked t k [] ++ asked t q []) (asked t l [] ++ asked t r []) (v.sees [] refl)
            (two-same (asked t k []) (asked t l []) (asked t q []) (asked t r []) (x.sees [] refl) (y.sees [] refl)));
      }

  kept-cast : (target : Ty) (e d : Tree) (a u : Ty) → cast_type target a ≡ Ok u → Kept e d a → Kept (cast e target) (cast d target) u
  unfolding typed_of mean asked slots_fit
  kept-cast target e d a u h k =
      let r = cast-under no_more_nullable narrowing target k.ty a u k.narrow h in
      record {
        was = ap (λ (x : Result Ty Refusal). and_then x (cast_type target)) k.was ∙ h;
        ty = r.ty;
        typed = ap (λ (x : Result Ty Refusal). and_then x (cast_type target)) k.typed ∙ r.is;
        narrow = r.under;
        fitting = k.fitting;
        means = ap (cast3 target) k.means;
        sees = λ path p. node-same (cast d target) (cast e target) (asked t d []) (asked t e []) (o.casts d e target k.means) (k.sees [] refl);
      }

  kept-dynamic : (op : CompareOperator) (i : ℕ) (slot : Ty) (default : Bool) (e d : Tree) (a u : Ty) → dynamic_type slot a ≡ Ok u → Kept e d a
      → Kept (dynamic e op i slot default) (dynamic d op i slot default) u
  unfolding typed_of mean asked slots_fit
  kept-dynamic op i slot default e d a u h k =
      let r = dynamic-under no_more_nullable narrowing slot k.ty a u k.narrow h in
      record {
        was = ap (λ (x : Result Ty Refusal). and_then x (dynamic_type slot)) k.was ∙ h;
        ty = r.ty;
        typed = ap (λ (x : Result Ty Refusal). and_then x (dynamic_type slot)) k.typed ∙ r.is;
        narrow = r.under;
        fitting = and-implied (held_fits (slot_held slots i) slot) (slots_fit slots e) (held_fits (slot_held slots i) slot) (slots_fit slots d) (λ s. s) k.fitting;
        means = ap (λ (v : Val). dynamic3 op default v (slot_value slots i)) k.means;
        sees = λ path p. still-same (dynamic d op i slot default) (dynamic e op i slot default) (asked t d []) (asked t e []) refl refl (k.sees [] refl);
      }

  -- what is asked for each of several names
  pub each-same : (ask other : List Bytes → List Asking) (fs : Fields) (names : List Bytes)
      → ((f : Bytes) → in_option (path_in []) (field_type f fs) ≡ true → list_any test (ask (f ∷ [])) ≡ list_any test (other (f ∷ [])))
      → AllByRecursion (λ f. has_name f (field_names fs) ≡ true) names → list_any test (each_asked ask names) ≡ list_any test (each_asked other names)
  each-same ask other fs [] r h = refl
  each-same ask other fs (f ∷ names) r h =
      let found = has_field f fs h.0 in
      two-same (ask (f ∷ [])) (other (f ∷ [])) (each_asked ask names) (each_asked other names) (r f (path_in-first f [] fs found.own found.found refl)) (each-same ask other fs names r h.1)

  -- another expression in its place gives the same names
  pub kept-names : (e d : Tree) (u : Ty) → Kept e d u → given_names t d ≡ given_names t e
  kept-names e d u k =
      ap (λ (r : Result Ty Refusal). names_in (type_or_empty r)) k.typed
      ∙ (names_in-under no_more_nullable narrowing k.ty u k.narrow ∙ sym (ap (λ (r : Result Ty Refusal). names_in (type_or_empty r)) k.was))

  select-typed : (s : FieldSelection) (e d : Tree) (a u : Ty) → select_type s a ≡ Ok u → Kept e d a → Ranked no_more_nullable (typed_of t (select s d)) u
  unfolding typed_of
  select-typed s e d a u h k =
      let is = select_type-ok s a u h in
      let strict : nullability_of a ≡ NonNullable = ap nullability_of is.is in
      let other : nullability_of k.ty ≡ NonNullable =
      not_nullable (nullability_of k.ty) (subst (λ (n : Nullability). no_more_nullable (nullability_of k.ty) n ≡ true) strict (null-under no_more_nullable narrowing k.ty a k.narrow)) in
      let r = select-under no_more_nullable narrowing s k.ty a u k.narrow (ap is_nullable (other ∙ sym strict)) h in
      record { ty = r.ty; is = ap (λ (x : Result Ty Refusal). and_then x (select_type s)) k.typed ∙ r.is; under = r.under }

  select-sees : (s : FieldSelection) (e d : Tree) (a u : Ty) → select_type s a ≡ Ok u → typed_of t (select s e) ≡ Ok u → given_names t (select s d) ≡ given_names t (select s e) → Kept e d a
      → (path : List Bytes) → path_in path u ≡ true
      → list_any test (path_or_each (asked t d) (given_names t (select s d)) path) ≡ list_any test (path_or_each (asked t e) (given_names t (select s e)) path)
  select-sees s e d a u h w same k (f ∷ path) p = k.sees (f ∷ path) (path-selected s f path a u h p)
  select-sees s e d a u h w same k [] p =
      let i = select_type-ok s a u h in
      let fs = selected_fields s i.fields in
      ap (λ (ns : List Bytes). list_any test (each_asked (asked t d) ns)) same
      ∙ each-same (asked t d) (asked t e) fs (given_names t (select s e))
      (λ f found. k.sees (f ∷ []) (path-selected s f [] a u h (subst (λ (z : Ty). path_in (f ∷ []) z ≡ true) (sym i.gives) found)))
      (subst (AllByRecursion (λ f. has_name f (field_names fs) ≡ true)) (sym (names_in-select t (select s e) u fs NonNullable w i.gives)) (all-own_names (field_names fs)))

  kept-select : (s : FieldSelection) (e d : Tree) (a u : Ty) → select_type s a ≡ Ok u → Kept e d a → Kept (select s e) (select s d) u
  unfolding typed_of mean asked slots_fit
  kept-select s e d a u h k =
      let r = select-typed s e d a u h k in
      let was : typed_of t (select s e) ≡ Ok u = ap (λ (x : Result Ty Refusal). and_then x (select_type s)) k.was ∙ h in
      let same : given_names t (select s d) ≡ given_names t (select s e) =
      ap (λ (x : Result Ty Refusal). names_in (type_or_empty x)) r.is
      ∙ (names_in-under no_more_nullable narrowing r.ty u r.under ∙ sym (ap (λ (x : Result Ty Refusal). names_in (type_or_empty x)) was)) in
      record {
        was = was;
        ty = r.ty;
        typed = r.is;
        narrow = r.under;
        fitting = k.fitting;
        means = ap (select3 s) k.means;
        sees = λ path p. still-same (select s d) (select s e) (path_or_each (asked t d) (given_names t (select s d)) path) (path_or_each (asked t e) (given_names t (select s e)) path) refl refl
            (select-sees s e d a u h was same k path p);
      }

  -- lists of expressions, one in the place of each other
  pub data KeptAll : Trees → Trees → List Ty → Type 0 where
    all_kept : KeptAll no_trees no_trees []
    more_kept : (e d : Tree) (u : Ty) (es ds : Trees) (us : List Ty) → Kept e d u → KeptAll es ds us → KeptAll (tree e es) (tree d ds) (u ∷ us)

  pub record AllRanked (ds : Trees) (us : List Ty) : Type 0 where
    pub tys : List Ty
    pub typed : all_typed t ds ≡ Ok tys
    pub under : UnderList no_more_nullable tys us

  all-ranked : (es ds : Trees) (us : List Ty) → KeptAll es ds us → AllRanked ds us
  unfolding typed_of
  all-ranked _ _ _ all_kept = record { tys = []; typed = refl; under = ended }
  all-ranked _ _ _ (more_kept e d u es ds us k ks) =
      let r = all-ranked es ds us ks in
      record {
        tys = k.ty ∷ r.tys;
        typed = ap (λ (x : Result Ty Refusal). and_then x (λ a. and_then (all_typed t ds) (λ ts. Ok (a ∷ ts)))) k.typed ∙ ap (λ (x : Result (List Ty) Refusal). and_then x (λ ts. Ok (k.ty ∷ ts))) r.typed;
        under = further k.ty u r.tys us k.narrow r.under;
      }

  all-was : (es ds : Trees) (us : List Ty) → KeptAll es ds us → all_typed t es ≡ Ok us
  unfolding typed_of
  all-was _ _ _ all_kept = refl
  all-was _ _ _ (more_kept e d u es ds us k ks) =
      ap (λ (x : Result Ty Refusal). and_then x (λ a. and_then (all_typed t es) (λ ts. Ok (a ∷ ts)))) k.was ∙ ap (λ (x : Result (List Ty) Refusal). and_then x (λ ts. Ok (u ∷ ts))) (all-was es ds us ks)

  all-fitting : (es ds : Trees) (us : List Ty) → KeptAll es ds us → all_slots_fit slots es ≡ true → all_slots_fit slots ds ≡ true
  unfolding slots_fit
  all-fitting _ _ _ all_kept s = s
  all-fitting _ _ _ (more_kept e d u es ds us k ks) s = and-implied (slots_fit slots e) (all_slots_fit slots es) (slots_fit slots d) (all_slots_fit slots ds) k.fitting (all-fitting es ds us ks) s

  all-means : (es ds : Trees) (us : List Ty) → KeptAll es ds us → meanings t slots row ds ≡ meanings t slots row es
  unfolding mean
  all-means _ _ _ all_kept = refl
  all-means _ _ _ (more_kept e d u es ds us k ks) =
      ap (λ (v : Val). v ∷ meanings t slots row ds) k.means ∙ ap (λ (vs : List Val). mean t slots row e ∷ vs) (all-means es ds us ks)

  all-sources : (es ds : Trees) (us : List Ty) → KeptAll es ds us → sources t slots row ds ≡ sources t slots row es
  unfolding mean
  all-sources _ _ _ all_kept = refl
  all-sources _ _ _ (more_kept e d u es ds us k ks) =
      let here : Source = record { names = given_names t e; whole = mean t slots row e } in
      ap (λ (ns : List Bytes). record { names = ns; whole = mean t slots row d } ∷ sources t slots row ds) (kept-names e d u k)
      ∙ (ap (λ (v : Val). record { names = given_names t e; whole = v } ∷ sources t slots row ds) k.means
      ∙ ap (λ (ss : List Source). here ∷ ss) (all-sources es ds us ks))

  -- a pack's values, all of them and the first of a name
  pack-whole : (names : List Bytes) (es ds : Trees) (us : List Ty) → KeptAll es ds us → list_any test (asked_in_pack t names ds []) ≡ list_any test (asked_in_pack t names es [])
  unfolding asked
  pack-whole [] _ _ _ all_kept = refl
  pack-whole (g ∷ names) _ _ _ all_kept = refl
  pack-whole [] _ _ _ (more_kept e d u es ds us k ks) = refl
  pack-whole (g ∷ names) _ _ _ (more_kept e d u es ds us k ks) =
      two-same (asked t d []) (asked t e []) (asked_in_pack t names ds []) (asked_in_pack t names es []) (k.sees [] refl) (pack-whole names es ds us ks)

  pack-one : (names : List Bytes) (es ds : Trees) (us : List Ty) → KeptAll es ds us → (f : Bytes) (path : List Bytes) → in_option (path_in path) (field_type f (zipped names us)) ≡ true
      → list_any test (asked_in_pack t names ds (f ∷ path)) ≡ list_any test (asked_in_pack t names es (f ∷ path))
  unfolding asked
  pack-one [] _ _ _ all_kept f path p = refl
  pack-one (g ∷ names) _ _ _ all_kept f path p = refl
  pack-one [] _ _ _ (more_kept e d u es ds us k ks) f path p = refl
  pack-one (g ∷ names) _ _ _ (more_kept e d u es ds us k ks) f path p = by-test (bytes_eq f g) p (pack-one names es ds us ks f path)
    where
      by-test : (b : Bool) → in_option (path_in path) (cond b (Some u) (field_type f (zipped names us))) ≡ true
          → (in_option (path_in path) (field_type f (zipped names us)) ≡ true → list_any test (asked_in_pack t names ds (f ∷ path)) ≡ list_any test (asked_in_pack t names es (f ∷ path)))
          → list_any test (cond b (asked t d path) (asked_in_pack t names ds (f ∷ path))) ≡ list_any test (cond b (asked t e path) (asked_in_pack t names es (f ∷ path)))
      by-test true q r = k.sees path q
      by-test false q r = r q

  pack-sees : (names : List Bytes) (n : Nullability) (es ds : Trees) (us : List Ty) (u : Ty) → pack_type names n us ≡ Ok u → KeptAll es ds us → (path : List Bytes) → path_in path u ≡ true
      → list_any test (asked_in_pack t names ds path) ≡ list_any test (asked_in_pack t names es path)
  pack-sees names n es ds us u h ks [] p = pack-whole names es ds us ks
  pack-sees names n es ds us u h ks (f ∷ path) p = pack-one names es ds us ks f path (subst (λ (z : Ty). path_in (f ∷ path) z ≡ true) (pack_type-ok names n us u h) p)

  kept-pack : (names : List Bytes) (n : Nullability) (es ds : Trees) (us : List Ty) (u : Ty) → pack_type names n us ≡ Ok u → KeptAll es ds us → Kept (pack names es n) (pack names ds n) u
  unfolding typed_of mean asked slots_fit
  kept-pack names n es ds us u h ks =
      let a = all-ranked es ds us ks in
      let r = pack-under no_more_nullable narrowing names n a.tys us u a.under h in
      record {
        was = ap (λ (x : Result (List Ty) Refusal). and_then x (pack_type names n)) (all-was es ds us ks) ∙ h;
        ty = r.ty;
        typed = ap (λ (x : Result (List Ty) Refusal). and_then x (pack_type names n)) a.typed ∙ r.is;
        narrow = r.under;
        fitting = all-fitting es ds us ks;
        means = ap (λ (vs : List Val). struct_val (zip_members names vs)) (all-means es ds us ks);
        sees = λ path p. still-same (pack names ds n) (pack names es n) (asked_in_pack t names ds path) (asked_in_pack t names es path) refl refl (pack-sees names n es ds us u h ks path p);
      }

  -- what a merge asks of the last giver of a name
  gives-same : (f : Bytes) (es ds : Trees) (us : List Ty) → KeptAll es ds us → some_gives giver_names f (givers t ds) ≡ some_gives names_in f us
  gives-same f es ds us ks = givers-same t slots row f ds ∙ (ap (some_gives source_names f) (all-sources es ds us ks) ∙ gives-typed t slots row f es us (all-was es ds us ks))

  giver-one : (e d : Tree) (u : Ty) (es ds : Trees) (us : List Ty) → Kept e d u → (f : Bytes) (path : List Bytes) (w : Ty) (x : Bool) → cond x (merged_type_at f us) (type_in f u) ≡ Some w → path_in path w ≡ true
      → (merged_type_at f us ≡ Some w → list_any test (asked_of_giver (givers t ds) (f ∷ path)) ≡ list_any test (asked_of_giver (givers t es) (f ∷ path)))
      → list_any test (cond x (asked_of_giver (givers t ds) (f ∷ path)) (cond (has_name f (given_names t d)) (asked t d (f ∷ path)) []))
      ≡ list_any test (cond x (asked_of_giver (givers t es) (f ∷ path)) (cond (has_name f (given_names t e)) (asked t e (f ∷ path)) []))
  giver-one e d u es ds us k f path w true h p r = r h
  giver-one e d u es ds us k f path w false h p r =
      let own : has_name f (given_names t e) ≡ true = ap (λ (x : Result Ty Refusal). has_name f (names_in (type_or_empty x))) k.was ∙ type_in-named f u w h in
      let other : has_name f (given_names t d) ≡ true = ap (has_name f) (kept-names e d u k) ∙ own in
      ap (λ (b : Bool). list_any test (cond b (asked t d (f ∷ path)) [])) other
      ∙ (k.sees (f ∷ path) (path-type_in f path u w h p) ∙ sym (ap (λ (b : Bool). list_any test (cond b (asked t e (f ∷ path)) [])) own))

  givers-seen : (es ds : Trees) (us : List Ty) → KeptAll es ds us → (f : Bytes) (path : List Bytes) (w : Ty) → merged_type_at f us ≡ Some w → path_in path w ≡ true
      → list_any test (asked_of_giver (givers t ds) (f ∷ path)) ≡ list_any test (asked_of_giver (givers t es) (f ∷ path))
  unfolding asked mean
  givers-seen _ _ _ all_kept f path w h p = refl
  givers-seen _ _ _ (more_kept e d u es ds us k ks) f path w h p =
      let own_gives : some_gives giver_names f (givers t es) ≡ some_gives names_in f us = givers-same t slots row f es ∙ gives-typed t slots row f es us (all-was es ds us ks) in
      ap (list_any test) (asked_of_giver-step f path (record { names = given_names t d; asks = asked t d }) (givers t ds))
      ∙ (ap (λ (x : Bool). list_any test (cond x (asked_of_giver (givers t ds) (f ∷ path)) (cond (has_name f (given_names t d)) (asked t d (f ∷ path)) []))) (gives-same f es ds us ks)
      ∙ (giver-one e d u es ds us k f path w (some_gives names_in f us) (sym (merged_type_at-step f u us) ∙ h) p (λ i. givers-seen es ds us ks f path w i p)
      ∙ (sym (ap (λ (x : Bool). list_any test (cond x (asked_of_giver (givers t es) (f ∷ path)) (cond (has_name f (given_names t e)) (asked t e (f ∷ path)) []))) own_gives)
      ∙ sym (ap (list_any test) (asked_of_giver-step f path (record { names = given_names t e; asks = asked t e }) (givers t es))))))

  merge-one : (n : Nullability) (es ds : Trees) (us : List Ty) (u : Ty) → merge_type n us ≡ Ok u → KeptAll es ds us → (f : Bytes) (path : List Bytes) → path_in (f ∷ path) u ≡ true
      → list_any test (asked_of_giver (givers t ds) (f ∷ path)) ≡ list_any test (asked_of_giver (givers t es) (f ∷ path))
  merge-one n es ds us u h ks f path p =
      let k = merge_type-ok us n u h in
      let first = first_of_path f path (merged_fields_at (merged_names names_in us) us) (subst (λ (z : Ty). path_in (f ∷ path) z ≡ true) k.gives p) in
      let found = merged_fields-type (merged_names names_in us) us f first.own first.found in
      givers-seen es ds us ks f path first.own found.type first.rest

  merge-sees : (n : Nullability) (es ds : Trees) (us : List Ty) (u : Ty) → merge_type n us ≡ Ok u → KeptAll es ds us → (path : List Bytes) → path_in path u ≡ true
      → list_any test (path_or_each (asked_of_giver (givers t ds)) (merged_names giver_names (givers t ds)) path)
      ≡ list_any test (path_or_each (asked_of_giver (givers t es)) (merged_names giver_names (givers t es)) path)
  merge-sees n es ds us u h ks (f ∷ path) p = merge-one n es ds us u h ks f path p
  merge-sees n es ds us u h ks [] p =
      let k = merge_type-ok us n u h in
      let fs = merged_fields_at (merged_names names_in us) us in
      let names : flat_map giver_names (givers t ds) ≡ flat_map giver_names (givers t es) =
      giver_names-same t slots row ds ∙ (ap (λ (ss : List Source). flat_map source_names ss) (all-sources es ds us ks) ∙ sym (giver_names-same t slots row es)) in
      let same : merged_names giver_names (givers t es) ≡ field_names fs = ap first_names (giver_names-same t slots row es ∙ names-typed t slots row es us (all-was es ds us ks)) ∙ sym (field_names-merged us) in
      ap (λ (ns : List Bytes). list_any test (each_asked (asked_of_giver (givers t ds)) (first_names ns))) names
      ∙ each-same (asked_of_giver (givers t ds)) (asked_of_giver (givers t es)) fs (merged_names giver_names (givers t es))
      (λ f found. merge-one n es ds us u h ks f [] (subst (λ (z : Ty). path_in (f ∷ []) z ≡ true) (sym k.gives) found))
      (subst (AllByRecursion (λ f. has_name f (field_names fs) ≡ true)) (sym same) (all-own_names (field_names fs)))

  kept-merge : (n : Nullability) (es ds : Trees) (us : List Ty) (u : Ty) → merge_type n us ≡ Ok u → KeptAll es ds us → Kept (merge es n) (merge ds n) u
  unfolding typed_of mean asked slots_fit
  kept-merge n es ds us u h ks =
      let a = all-ranked es ds us ks in
      let r = merge-under no_more_nullable narrowing n a.tys us u a.under h in
      record {
        was = ap (λ (x : Result (List Ty) Refusal). and_then x (merge_type n)) (all-was es ds us ks) ∙ h;
        ty = r.ty;
        typed = ap (λ (x : Result (List Ty) Refusal). and_then x (merge_type n)) a.typed ∙ r.is;
        narrow = r.under;
        fitting = all-fitting es ds us ks;
        means = ap merged (all-sources es ds us ks);
        sees = λ path p. still-same (merge ds n) (merge es n) (path_or_each (asked_of_giver (givers t ds)) (merged_names giver_names (givers t ds)) path)
            (path_or_each (asked_of_giver (givers t es)) (merged_names giver_names (givers t es)) path) refl refl (merge-sees n es ds us u h ks path p);
      }

  -- what a pass makes of an expression, kept in its place
  pub record Made (r : Result Tree Refusal) (e : Tree) (u : Ty) : Type 0 where
    pub made : Tree
    pub is : r ≡ Ok made
    pub kept : Kept e made u

  pub record AllMade (r : Result Trees Refusal) (es : Trees) (us : List Ty) : Type 0 where
    pub made : Trees
    pub is : r ≡ Ok made
    pub kept : KeptAll es made us

  -- a step that keeps each strictly typed node
  abbrev pub KeepsNodes : (Tree → Result Tree Refusal) → Type 0
  KeepsNodes step = (n : Tree) (u : Ty) → typed_of t n ≡ Ok u → Made (step n) n u

  finished : (step : Tree → Result Tree Refusal) → KeepsNodes step → (r : Result Tree Refusal) (e n : Tree) (u : Ty) → r ≡ step n → Kept e n u → Made r e u
  finished step s r e n u h k = let m = s n k.ty k.typed in record { made = m.made; is = h ∙ m.is; kept = kept-then e n m.made u k m.kept }

  mutual
    unfolding rebuilt typed_of

    -- a pass from the leaves up keeps each strictly typed expression where its step does
    pub rebuilt-kept : (step : Tree → Result Tree Refusal) → KeepsNodes step → (e : Tree) (u : Ty) → typed_of t e ≡ Ok u → Made (rebuilt step e) e u
    rebuilt-kept step s root u h = s root u h
    rebuilt-kept step s (literal c) u h = s (literal c) u h
    rebuilt-kept step s (get_item f d) u h =
        let a = and_then-ok (typed_of t d) (item_type f) u h in
        let m = rebuilt-kept step s d a.given a.was in
        finished step s (rebuilt step (get_item f d)) (get_item f d) (get_item f m.made) u (ap (λ (x : Result Tree Refusal). and_then x (λ c. step (get_item f c))) m.is)
        (kept-get_item f d m.made a.given u a.gave m.kept)
    rebuilt-kept step s (binary l op r) u h =
        let a = and_then-ok (typed_of t l) (λ x. and_then (typed_of t r) (binary_type op x)) u h in
        let b = and_then-ok (typed_of t r) (binary_type op a.given) u a.gave in
        let m = rebuilt-kept step s l a.given a.was in
        let k = rebuilt-kept step s r b.given b.was in
        finished step s (rebuilt step (binary l op r)) (binary l op r) (binary m.made op k.made) u
        (ap (λ (x : Result Tree Refusal). and_then x (λ c. and_then (rebuilt step r) (λ d. step (binary c op d)))) m.is ∙ ap (λ (x : Result Tree Refusal). and_then x (λ d. step (binary m.made op d))) k.is)
        (kept-binary op l m.made r k.made a.given b.given u b.gave m.kept k.kept)
    rebuilt-kept step s (not_of d) u h =
        let a = and_then-ok (typed_of t d) not_type u h in
        let m = rebuilt-kept step s d a.given a.was in
        finished step s (rebuilt step (not_of d)) (not_of d) (not_of m.made) u (ap (λ (x : Result Tree Refusal). and_then x (λ c. step (not_of c))) m.is) (kept-not d m.made a.given u a.gave m.kept)
    rebuilt-kept step s (is_null_of d) u h =
        let a = and_then-ok (typed_of t d) (λ x. Ok (bool_ty NonNullable)) u h in
        let m = rebuilt-kept step s d a.given a.was in
        finished step s (rebuilt step (is_null_of d)) (is_null_of d) (is_null_of m.made) u (ap (λ (x : Result Tree Refusal). and_then x (λ c. step (is_null_of c))) m.is)
        (subst (Kept (is_null_of d) (is_null_of m.made)) (Ok-same (Ok u) (bool_ty NonNullable) u (sym a.gave) refl) (kept-is_null d m.made a.given m.kept))
    rebuilt-kept step s (like d p negated fold_case) u h =
        let a = and_then-ok (typed_of t d) (λ x. and_then (typed_of t p) (like_type x)) u h in
        let b = and_then-ok (typed_of t p) (like_type a.given) u a.gave in
        let m = rebuilt-kept step s d a.given a.was in
        let k = rebuilt-kept step s p b.given b.was in
        finished step s (rebuilt step (like d p negated fold_case)) (like d p negated fold_case) (like m.made k.made negated fold_case) u
        (ap (λ (x : Result Tree Refusal). and_then x (λ c. and_then (rebuilt step p) (λ q. step (like c q negated fold_case)))) m.is
        ∙ ap (λ (x : Result Tree Refusal). and_then x (λ q. step (like m.made q negated fold_case))) k.is)
        (kept-like negated fold_case d m.made p k.made a.given b.given u b.gave m.kept k.kept)
    rebuilt-kept step s (between d lower upper options) u h =
        let a = and_then-ok (typed_of t d) (λ x. and_then (typed_of t lower) (λ y. and_then (typed_of t upper) (between_type x y))) u h in
        let b = and_then-ok (typed_of t lower) (λ y. and_then (typed_of t upper) (between_type a.given y)) u a.gave in
        let c = and_then-ok (typed_of t upper) (between_type a.given b.given) u b.gave in
        let m = rebuilt-kept step s d a.given a.was in
        let k = rebuilt-kept step s lower b.given b.was in
        let l = rebuilt-kept step s upper c.given c.was in
        finished step s (rebuilt step (between d lower upper options)) (between d lower upper options) (between m.made k.made l.made options) u
        (ap (λ (x : Result Tree Refusal). and_then x (λ e. and_then (rebuilt step lower) (λ f. and_then (rebuilt step upper) (λ j. step (between e f j options))))) m.is
        ∙ (ap (λ (x : Result Tree Refusal). and_then x (λ f. and_then (rebuilt step upper) (λ j. step (between m.made f j options)))) k.is
        ∙ ap (λ (x : Result Tree Refusal). and_then x (λ j. step (between m.made k.made j options))) l.is))
        (kept-between options d m.made lower k.made upper l.made a.given b.given c.given u c.gave m.kept k.kept l.kept)
    rebuilt-kept step s (cast d target) u h =
        let a = and_then-ok (typed_of t d) (cast_type target) u h in
        let m = rebuilt-kept step s d a.given a.was in
        finished step s (rebuilt step (cast d target)) (cast d target) (cast m.made target) u (ap (λ (x : Result Tree Refusal). and_then x (λ c. step (cast c target))) m.is)
        (kept-cast target d m.made a.given u a.gave m.kept)
    rebuilt-kept step s (list_contains l v) u h =
        let a = and_then-ok (typed_of t l) (λ x. and_then (typed_of t v) (contains_type x)) u h in
        let b = and_then-ok (typed_of t v) (contains_type a.given) u a.gave in
        let m = rebuilt-kept step s l a.given a.was in
        let k = rebuilt-kept step s v b.given b.was in
        finished step s (rebuilt step (list_contains l v)) (list_contains l v) (list_contains m.made k.made) u
        (ap (λ (x : Result Tree Refusal). and_then x (λ c. and_then (rebuilt step v) (λ d. step (list_contains c d)))) m.is ∙ ap (λ (x : Result Tree Refusal). and_then x (λ d. step (list_contains m.made d))) k.is)
        (kept-contains l m.made v k.made a.given b.given u b.gave m.kept k.kept)
    rebuilt-kept step s (pack names es n) u h =
        let a = and_then-ok (all_typed t es) (pack_type names n) u h in
        let m = all_rebuilt-kept step s es a.given a.was in
        finished step s (rebuilt step (pack names es n)) (pack names es n) (pack names m.made n) u (ap (λ (x : Result Trees Refusal). and_then x (λ ds. step (pack names ds n))) m.is)
        (kept-pack names n es m.made a.given u a.gave m.kept)
    rebuilt-kept step s (merge es n) u h =
        let a = and_then-ok (all_typed t es) (merge_type n) u h in
        let m = all_rebuilt-kept step s es a.given a.was in
        finished step s (rebuilt step (merge es n)) (merge es n) (merge m.made n) u (ap (λ (x : Result Trees Refusal). and_then x (λ ds. step (merge ds n))) m.is)
        (kept-merge n es m.made a.given u a.gave m.kept)
    rebuilt-kept step s (select c d) u h =
        let a = and_then-ok (typed_of t d) (select_type c) u h in
        let m = rebuilt-kept step s d a.given a.was in
        finished step s (rebuilt step (select c d)) (select c d) (select c m.made) u (ap (λ (x : Result Tree Refusal). and_then x (λ b. step (select c b))) m.is) (kept-select c d m.made a.given u a.gave m.kept)
    rebuilt-kept step s (dynamic d op j slot default) u h =
        let a = and_then-ok (typed_of t d) (dynamic_type slot) u h in
        let m = rebuilt-kept step s d a.given a.was in
        finished step s (rebuilt step (dynamic d op j slot default)) (dynamic d op j slot default) (dynamic m.made op j slot default) u
        (ap (λ (x : Result Tree Refusal). and_then x (λ b. step (dynamic b op j slot default))) m.is) (kept-dynamic op j slot default d m.made a.given u a.gave m.kept)

    pub all_rebuilt-kept : (step : Tree → Result Tree Refusal) → KeepsNodes step → (es : Trees) (us : List Ty) → all_typed t es ≡ Ok us
        → AllMade (all_rebuilt step es) es us
    all_rebuilt-kept step s no_trees us h =
        record { made = no_trees; is = refl; kept = subst (KeptAll no_trees no_trees) (Ok-same (Ok us) [] us (sym h) refl) all_kept }
    all_rebuilt-kept step s (tree d ds) us h =
        let a = and_then-ok (typed_of t d) (λ x. and_then (all_typed t ds) (λ xs. Ok (x ∷ xs))) us h in
        let b = and_then-ok (all_typed t ds) (λ xs. Ok (a.given ∷ xs)) us a.gave in
        let m = rebuilt-kept step s d a.given a.was in
        let k = all_rebuilt-kept step s ds b.given b.was in
        record {
          made = tree m.made k.made;
          is = ap (λ (x : Result Tree Refusal). and_then x (λ c. and_then (all_rebuilt step ds) (λ cs. Ok (tree c cs)))) m.is ∙ ap (λ (x : Result Trees Refusal). and_then x (λ cs. Ok (tree m.made cs))) k.is;
          kept = subst (KeptAll (tree d ds) (tree m.made k.made)) (Ok-same (Ok us) (a.given ∷ b.given) us (sym b.gave) refl) (more_kept d m.made a.given ds k.made b.given m.kept k.kept);
        }
