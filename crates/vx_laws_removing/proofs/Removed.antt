-- The packs that stand for a select and for a merge.
use Rattle.std.proofs.Common.{◌≡◌, refl, ap, sym, ◌∙◌, Bool, true, false, cond, Option, Some, None, subst, List, [], ◌∷◌, ◌++◌, Result, Ok}
use Rattle.std.specs.Prelude.{map, is_some, option_map, ok_or, unwrap_or}
use Rattle.std.specs.Option.{option_or}
use Rattle.std.specs.List.{list_any, list_all, flat_map}
use Rattle.std.proofs.lemmas.Bool.{and_parts}
use Rattle.vx_dtype.specs.declared.Nullability.{Nullability}
use Rattle.vx_dtype.specs.declared.Nullability.TheVariants.{NonNullable}
use Rattle.vx_dtype.specs.Types.{Bytes, Ty, bool_ty, int_ty, text_ty, list_ty, struct_ty, Fields}
use Rattle.vx_dtype.specs.TypeRules.{widened, field_names, field_type, has_name}
use Rattle.vx_dtype.specs.StructTypes.{is_struct_ty, all_known}
use Rattle.vx_dtype.specs.Values.{Val, fault}
use Rattle.vx_dtype.specs.Fits.{fits_but_for_faults}
use Rattle.vx_dtype.specs.Structs.{field_of, first_names}
use Rattle.vx_expr.specs.declared.FieldSelection.{FieldSelection}
use Rattle.vx_expr.specs.declared.FieldSelection.TheVariants.{Include, Exclude}
use Rattle.vx_expr.specs.Children.{where_so}
use Rattle.vx_expr.specs.Selections.{listed_names, taken_names}
use Rattle.vx_expr.specs.Trees.{Tree, root, get_item, pack, merge, select, Trees, no_trees, tree, trees_of}
use Rattle.vx_semantics.specs.Typing.{Refusal, not_struct, unknown_field, and_then, item_type, selected_fields, select_type, names_in, type_in, merged_type_at, merged_fields_at, merge_type, typed_of, all_typed, type_or_empty, given_names}
use Rattle.vx_semantics.specs.LooseTyping.{loosely_typed}
use Rattle.vx_semantics.specs.Meaning.{Slots, Source, source_names, select3, merged_value, merged_members, merged, mean, sources}
use Rattle.vx_semantics.specs.Merging.{merged_names, last_giver}
use Rattle.vx_semantics.specs.Slots.{slots_fit, all_slots_fit}
use Rattle.vx_semantics.specs.Asked.{Asking, giver_names, givers, path_or_each, asked, asked_of_giver}
use Rattle.vx_passes.specs.Selecting.{fields_pack, select_as_pack, select_removed, without_select}
use Rattle.vx_passes.specs.Merging.{Giving, giving_names, giving_of, givings, given_field, givings_pack, merge_removed, without_merge}
use Rattle.vx_laws.proofs.Inverting.{and_then-ok, unless-ok, Ok-same}
use Rattle.vx_laws.proofs.Merging.{some_gives, some_gives-step, merged_type_at-step, merged_value-step, asked_of_giver-step, givers-same, giver_names-same}
use Rattle.vx_laws.proofs.Structs.{select_type-ok}
use Rattle.vx_laws.proofs.Distinct.{field_names-fields_at, field_names-without, field_names-merged}
use Rattle.vx_laws.proofs.Lookups.{merged_fields-type, merged_members-value, select-chosen}
use Rattle.vx_laws.proofs.Faultless.{merge_type-ok, names_in-select, type_in-named}
use Rattle.vx_laws_simplifying.proofs.Observing.{Observes, seen, seen-below}
use Rattle.vx_laws_simplifying.proofs.PackedRows.{widened-NonNullable}
use Rattle.vx_laws.proofs.GivenNames.{gives-typed, names-typed}
use Rattle.vx_laws_simplifying.proofs.Kept.{Kept, kept-own, Made, KeepsNodes, rebuilt-kept}
use Rattle.vx_laws.specs.Values.{plain_nullable}
use Rattle.vx_laws.proofs.AnySlots.{FitsButNulls, StructButNulls, struct-but_nulls, mean-but_nulls}
use Rattle.vx_laws_simplifying.proofs.Passes.{MakesKept}
use Rattle.vx_laws_removing.proofs.Loosened.{loosened}
use Rattle.vx_laws_removing.proofs.PackedItems.{ItemKept, items-kept}

-- the names that a select takes are those of its type
taken-selected : (s : FieldSelection) (fs : Fields) → all_known (listed_names s) fs ≡ true → taken_names s (field_names fs) ≡ field_names (selected_fields s fs)
taken-selected (Include names) fs h = sym (field_names-fields_at names fs h)
taken-selected (Exclude names) fs h = sym (field_names-without names fs)

-- a type's field as an item
pub item-found : (f : Bytes) (fs : Fields) (w : Ty) → field_type f fs ≡ Some w → item_type f (struct_ty fs NonNullable) ≡ Ok w
item-found f fs w h = ap (λ (x : Option Ty). ok_or (option_map (λ (u : Ty). widened u NonNullable) x) unknown_field) h ∙ ap (λ (z : Ty). Ok z) (widened-NonNullable w)

item-in : (f : Bytes) (a w : Ty) → type_in f a ≡ Some w → item_type f a ≡ Ok w
item-in f (struct_ty fs n) w h = ap (λ (x : Option Ty). ok_or x unknown_field) h
item-in f (bool_ty n) w h = let no : ⊥ = cc in absurd no
item-in f (int_ty p n) w h = let no : ⊥ = cc in absurd no
item-in f (text_ty n) w h = let no : ⊥ = cc in absurd no
item-in f (list_ty e n) w h = let no : ⊥ = cc in absurd no

-- a merge is a struct, whether its type is nullable or not
merged-struct : (ss : List Source) (fs : Fields) (n : Nullability) → FitsButNulls (merged ss) (struct_ty fs n) → StructButNulls (merged ss) fs
unfolding fits_but_for_faults plain_nullable
merged-struct ss fs n h = record { members = merged_members (merged_names source_names ss) ss; is = refl; fit = h }

module _ (t : Ty) (slots : Slots) (row : Val) (test : Asking → Bool) (o : Observes t slots row test) (g : FitsButNulls row t) where
  -- a select
  select-item : (s : FieldSelection) (e : Tree) (fs : Fields) → typed_of t e ≡ Ok (struct_ty fs NonNullable) → StructButNulls (mean t slots row e) fs
      → (f : Bytes) (w : Ty) → field_type f (selected_fields s fs) ≡ Some w → ItemKept t slots row test o (select s e) (λ h. get_item h e) (asked t e) (select3 s (mean t slots row e)) f w
  unfolding typed_of mean asked slots_fit
  select-item s e fs h is f w k =
      let chosen = select-chosen s f fs is.members w k in
      record {
        typed = ap (λ (x : Result Ty Refusal). and_then x (item_type f)) h ∙ item-found f fs w chosen.type;
        fitting = λ i. i;
        means = ap (field_of f) is.is ∙ (sym chosen.value ∙ ap (λ (z : Val). field_of f (select3 s z)) (sym is.is));
        sees = λ path p. seen-below t slots row test o (get_item f e) (asked t e (f ∷ path)) refl;
      }

  select-sees : (s : FieldSelection) (e : Tree) (gs : Fields) → typed_of t (select s e) ≡ Ok (struct_ty gs NonNullable) → (path : List Bytes)
      → seen test t (select s e) path ≡ list_any test (path_or_each (asked t e) (field_names gs) path)
  unfolding asked
  select-sees s e gs h path =
      seen-below t slots row test o (select s e) (path_or_each (asked t e) (given_names t (select s e)) path) refl
      ∙ ap (λ (ns : List Bytes). list_any test (path_or_each (asked t e) ns path)) (names_in-select t (select s e) (struct_ty gs NonNullable) gs NonNullable h refl)

  select-is : (s : FieldSelection) (e : Tree) (fs : Fields) → loosely_typed t e ≡ Ok (struct_ty fs NonNullable) → all_known (listed_names s) fs ≡ true
      → select_removed t (select s e) ≡ Ok (pack (field_names (selected_fields s fs)) (trees_of (map (λ h. get_item h e) (field_names (selected_fields s fs)))) NonNullable)
  select-is s e fs h i =
      ap (λ (x : Result Ty Refusal). and_then x (select_as_pack s e)) h
      ∙ (ap (λ (b : Bool). fields_pack e (where_so b (taken_names s (field_names fs)))) i
      ∙ ap (λ (ns : List Bytes). fields_pack e (Some ns)) (taken-selected s fs i))

  select-kept : (s : FieldSelection) (e : Tree) (u : Ty) → typed_of t (select s e) ≡ Ok u → Made t slots row test o (select_removed t (select s e)) (select s e) u
  unfolding typed_of mean
  select-kept s e u h =
      let a = and_then-ok (typed_of t e) (select_type s) u h in
      let k = select_type-ok s a.given u a.gave in
      let fs = k.fields in
      let gs = selected_fields s fs in
      let v = mean t slots row e in
      let typed : typed_of t e ≡ Ok (struct_ty fs NonNullable) = a.was ∙ ap (λ (z : Ty). Ok z) k.is in
      let whole : typed_of t (select s e) ≡ Ok (struct_ty gs NonNullable) = h ∙ ap (λ (z : Ty). Ok z) k.gives in
      let is = struct-but_nulls v fs (mean-but_nulls t slots row e (struct_ty fs NonNullable) g typed) in
      let chosen = struct-but_nulls (select3 s v) gs (mean-but_nulls t slots row (select s e) (struct_ty gs NonNullable) g whole) in
      record {
        made = pack (field_names gs) (trees_of (map (λ h. get_item h e) (field_names gs))) NonNullable;
        is = select-is s e fs (loosened t e (struct_ty fs NonNullable) typed) k.known;
        kept = subst (Kept t slots row test o (select s e) (pack (field_names gs) (trees_of (map (λ h. get_item h e) (field_names gs))) NonNullable)) (sym k.gives)
            (items-kept t slots row test o (select s e) (λ h. get_item h e) (asked t e) (select3 s v) gs NonNullable whole chosen refl (λ path p. select-sees s e gs whole path)
            (select-item s e fs typed is));
      }

  select_removed-keeps : KeepsNodes t slots row test o (select_removed t)
  select_removed-keeps (select s e) u h = select-kept s e u h
  select_removed-keeps n u h = record { made = n; is = refl; kept = kept-own t slots row test o n u h }

  -- a merge: the structs that go into it
  data Gives : List Giving → Trees → List Ty → Type 0 where
    gives_none : Gives [] no_trees []
    gives_more : (e : Tree) (u : Ty) (gs : List Giving) (es : Trees) (us : List Ty) → typed_of t e ≡ Ok u → Gives gs es us
        → Gives (record { names = names_in u; expression = e } ∷ gs) (tree e es) (u ∷ us)

  record Given (es : Trees) (us : List Ty) : Type 0 where
    pub all : List Giving
    pub is : givings t es ≡ Ok all
    pub gives : Gives all es us

  giving-struct : (e : Tree) (u : Ty) → is_struct_ty u ≡ true → giving_of e u ≡ Ok (record { names = names_in u; expression = e })
  giving-struct e (struct_ty fs n) h = refl
  giving-struct e _ h = let no : ⊥ = cc in absurd no

  given : (es : Trees) (us : List Ty) → all_typed t es ≡ Ok us → list_all is_struct_ty us ≡ true → Given es us
  unfolding typed_of
  given no_trees us h k = record { all = []; is = refl; gives = subst (Gives [] no_trees) (Ok-same (Ok us) [] us (sym h) refl) gives_none }
  given (tree d ds) us h k =
      let a = and_then-ok (typed_of t d) (λ x. and_then (all_typed t ds) (λ xs. Ok (x ∷ xs))) us h in
      let b = and_then-ok (all_typed t ds) (λ xs. Ok (a.given ∷ xs)) us a.gave in
      let same : a.given ∷ b.given ≡ us = Ok-same (Ok us) (a.given ∷ b.given) us (sym b.gave) refl in
      let both = and_parts (is_struct_ty a.given) (list_all is_struct_ty b.given) (subst (λ (z : List Ty). list_all is_struct_ty z ≡ true) (sym same) k) in
      let rest = given ds b.given b.was both.1 in
      let first : Giving = record { names = names_in a.given; expression = d } in
      let here : and_then (loosely_typed t d) (giving_of d) ≡ Ok first = ap (λ (x : Result Ty Refusal). and_then x (giving_of d)) (loosened t d a.given a.was) ∙ giving-struct d a.given both.0 in
      record {
        all = first ∷ rest.all;
        is = ap (λ (x : Result Giving Refusal). and_then x (λ y. and_then (givings t ds) (λ ys. Ok (y ∷ ys)))) here ∙ ap (λ (x : Result (List Giving) Refusal). and_then x (λ ys. Ok (first ∷ ys))) rest.is;
        gives = subst (Gives (first ∷ rest.all) (tree d ds)) same (gives_more d a.given rest.all ds b.given a.was rest.gives);
      }

  gives-were : (gs : List Giving) (es : Trees) (us : List Ty) → Gives gs es us → all_typed t es ≡ Ok us
  unfolding typed_of
  gives-were _ _ _ gives_none = refl
  gives-were _ _ _ (gives_more e u gs es us h x) =
      ap (λ (r : Result Ty Refusal). and_then r (λ a. and_then (all_typed t es) (λ ts. Ok (a ∷ ts)))) h
      ∙ ap (λ (r : Result (List Ty) Refusal). and_then r (λ ts. Ok (u ∷ ts))) (gives-were gs es us x)

  gives-names : (gs : List Giving) (es : Trees) (us : List Ty) → Gives gs es us → flat_map giving_names gs ≡ flat_map names_in us
  gives-names _ _ _ gives_none = refl
  gives-names _ _ _ (gives_more e u gs es us h x) = ap (λ (ns : List Bytes). names_in u ++ ns) (gives-names gs es us x)

  gives-some : (f : Bytes) (gs : List Giving) (es : Trees) (us : List Ty) → Gives gs es us → some_gives giving_names f gs ≡ some_gives names_in f us
  gives-some f _ _ _ gives_none = refl
  gives-some f _ _ _ (gives_more e u gs es us h x) =
      some_gives-step giving_names f (record { names = names_in u; expression = e }) gs
      ∙ (ap (λ (b : Bool). cond b true (has_name f (names_in u))) (gives-some f gs es us x) ∙ sym (some_gives-step names_in f u us))

  -- the last struct that gives a name, or the row
  giver : List Giving → Bytes → Tree
  giver gs f = unwrap_or (option_map (λ y. y.expression) (last_giver giving_names f gs)) root

  giver-step : (f : Bytes) (x : Giving) (gs : List Giving) → giver (x ∷ gs) f ≡ cond (some_gives giving_names f gs) (giver gs f) (cond (has_name f x.names) x.expression root)
  unfolding giver
  giver-step f x gs = by-rest (last_giver giving_names f gs) (has_name f x.names)
    where
      by-rest : (p : Option Giving) (b : Bool)
          → unwrap_or (option_map (λ (y : Giving). y.expression) (option_or p (cond b (Some x) None))) root
          ≡ cond (is_some p) (unwrap_or (option_map (λ (y : Giving). y.expression) p) root) (cond b x.expression root)
      by-rest (Some z) b = refl
      by-rest None true = refl
      by-rest None false = refl

  -- what a field of a merge is taken from
  record Taken (f : Bytes) (w : Ty) (es : Trees) (d : Tree) : Type 0 where
    pub typed : typed_of t (get_item f d) ≡ Ok w
    pub fitting : all_slots_fit slots es ≡ true → slots_fit slots d ≡ true
    pub means : field_of f (mean t slots row d) ≡ merged_value f (sources t slots row es)
    pub sees : (path : List Bytes) → list_any test (asked t d (f ∷ path)) ≡ list_any test (asked_of_giver (givers t es) (f ∷ path))

  taken : (f : Bytes) (w : Ty) (gs : List Giving) (es : Trees) (us : List Ty) → Gives gs es us → merged_type_at f us ≡ Some w → Taken f w es (giver gs f)
  unfolding mean asked typed_of slots_fit
  taken f w _ _ _ gives_none k = let no : ⊥ = cc in absurd no
  taken f w _ _ _ (gives_more e u gs es us h x) k =
      subst (Taken f w (tree e es)) (sym (giver-step f (record { names = names_in u; expression = e }) gs ∙ ap (λ (b : Bool). cond b (giver gs f) (cond (has_name f (names_in u)) e root)) (gives-some f gs es us x)))
      (by-test (some_gives names_in f us) refl (sym (merged_type_at-step f u us) ∙ k) (taken f w gs es us x))
    where
      named : given_names t e ≡ names_in u
      named = ap (λ (r : Result Ty Refusal). names_in (type_or_empty r)) h

      value : (b : Bool) → some_gives names_in f us ≡ b
          → merged_value f (sources t slots row (tree e es)) ≡ cond b (merged_value f (sources t slots row es)) (cond (has_name f (given_names t e)) (field_of f (mean t slots row e)) fault)
      value b i =
          merged_value-step f (record { names = given_names t e; whole = mean t slots row e }) (sources t slots row es)
          ∙ ap (λ (y : Bool). cond y (merged_value f (sources t slots row es)) (cond (has_name f (given_names t e)) (field_of f (mean t slots row e)) fault))
          (gives-typed t slots row f es us (gives-were gs es us x) ∙ i)

      ask : (path : List Bytes) (b : Bool) → some_gives names_in f us ≡ b
          → asked_of_giver (givers t (tree e es)) (f ∷ path) ≡ cond b (asked_of_giver (givers t es) (f ∷ path)) (cond (has_name f (given_names t e)) (asked t e (f ∷ path)) [])
      ask path b i =
          asked_of_giver-step f path (record { names = given_names t e; asks = asked t e }) (givers t es)
          ∙ ap (λ (y : Bool). cond y (asked_of_giver (givers t es) (f ∷ path)) (cond (has_name f (given_names t e)) (asked t e (f ∷ path)) []))
          (givers-same t slots row f es ∙ (gives-typed t slots row f es us (gives-were gs es us x) ∙ i))

      by-test : (b : Bool) → some_gives names_in f us ≡ b → cond b (merged_type_at f us) (type_in f u) ≡ Some w → (merged_type_at f us ≡ Some w → Taken f w es (giver gs f))
          → Taken f w (tree e es) (cond b (giver gs f) (cond (has_name f (names_in u)) e root))
      by-test true i j r =
          let y = r j in
          record {
            typed = y.typed;
            fitting = λ z. y.fitting (and_parts (slots_fit slots e) (all_slots_fit slots es) z).1;
            means = y.means ∙ sym (value true i);
            sees = λ path. y.sees path ∙ sym (ap (list_any test) (ask path true i));
          }
      by-test false i j r =
          let has : has_name f (names_in u) ≡ true = type_in-named f u w j in
          let gives : has_name f (given_names t e) ≡ true = ap (has_name f) named ∙ has in
          subst (λ (b : Bool). Taken f w (tree e es) (cond b e root)) (sym has) (record {
            typed = ap (λ (z : Result Ty Refusal). and_then z (item_type f)) h ∙ item-in f u w j;
            fitting = λ z. (and_parts (slots_fit slots e) (all_slots_fit slots es) z).0;
            means = sym (value false i ∙ ap (λ (b : Bool). cond b (field_of f (mean t slots row e)) fault) gives);
            sees = λ path. sym (ap (list_any test) (ask path false i ∙ ap (λ (b : Bool). cond b (asked t e (f ∷ path)) []) gives));
          })

  merge-item : (n : Nullability) (gs : List Giving) (es : Trees) (us : List Ty) → Gives gs es us
      → (f : Bytes) (w : Ty) → field_type f (merged_fields_at (merged_names names_in us) us) ≡ Some w
      → ItemKept t slots row test o (merge es n) (given_field gs) (asked_of_giver (givers t es)) (merged (sources t slots row es)) f w
  unfolding mean asked slots_fit giver
  merge-item n gs es us x f w k =
      let found = merged_fields-type (merged_names names_in us) us f w k in
      let ss = sources t slots row es in
      let y = taken f w gs es us x found.type in
      let named : has_name f (merged_names source_names ss) ≡ true = ap (λ (z : List Bytes). has_name f (first_names z)) (names-typed t slots row es us (gives-were gs es us x)) ∙ found.name in
      record {
        typed = y.typed;
        fitting = y.fitting;
        means = y.means ∙ sym (merged_members-value (merged_names source_names ss) ss f named);
        sees = λ path p. seen-below t slots row test o (given_field gs f) (asked t (giver gs f) (f ∷ path)) refl ∙ y.sees path;
      }

  merge-sees : (es : Trees) (n : Nullability) (us : List Ty) → all_typed t es ≡ Ok us → (path : List Bytes)
      → seen test t (merge es n) path ≡ list_any test (path_or_each (asked_of_giver (givers t es)) (field_names (merged_fields_at (merged_names names_in us) us)) path)
  unfolding asked
  merge-sees es n us h path =
      seen-below t slots row test o (merge es n) (path_or_each (asked_of_giver (givers t es)) (merged_names giver_names (givers t es)) path) refl
      ∙ ap (λ (ns : List Bytes). list_any test (path_or_each (asked_of_giver (givers t es)) ns path))
      (ap first_names (giver_names-same t slots row es ∙ names-typed t slots row es us h) ∙ sym (field_names-merged us))

  merge-kept : (es : Trees) (n : Nullability) (u : Ty) → typed_of t (merge es n) ≡ Ok u → Made t slots row test o (merge_removed t (merge es n)) (merge es n) u
  unfolding typed_of mean
  merge-kept es n u h =
      let a = and_then-ok (all_typed t es) (merge_type n) u h in
      let us = a.given in
      let fs = merged_fields_at (merged_names names_in us) us in
      let k = merge_type-ok us n u a.gave in
      let structs = (unless-ok (list_all is_struct_ty us) not_struct (Ok (struct_ty fs n)) u a.gave).holds in
      let x = given es us a.was structs in
      let ss = sources t slots row es in
      let whole : typed_of t (merge es n) ≡ Ok (struct_ty fs n) = h ∙ ap (λ (z : Ty). Ok z) k.gives in
      let names : merged_names giving_names x.all ≡ field_names fs = ap first_names (gives-names x.all es us x.gives) ∙ sym (field_names-merged us) in
      let made = pack (field_names fs) (trees_of (map (given_field x.all) (field_names fs))) n in
      record {
        made = made;
        is = ap (λ (r : Result (List Giving) Refusal). and_then r (λ gs. Ok (givings_pack n gs))) x.is
            ∙ ap (λ (ns : List Bytes). Ok (pack ns (trees_of (map (given_field x.all) ns)) n)) names;
        kept = subst (Kept t slots row test o (merge es n) made) (sym k.gives)
            (items-kept t slots row test o (merge es n) (given_field x.all) (asked_of_giver (givers t es)) (merged ss) fs n whole
            (merged-struct ss fs n (mean-but_nulls t slots row (merge es n) (struct_ty fs n) g whole)) refl (λ path p. merge-sees es n us a.was path)
            (merge-item n x.all es us x.gives));
      }

  merge_removed-keeps : KeepsNodes t slots row test o (merge_removed t)
  merge_removed-keeps (merge es n) u h = merge-kept es n u h
  merge_removed-keeps n u h = record { made = n; is = refl; kept = kept-own t slots row test o n u h }

pub without_select-kept : MakesKept without_select
without_select-kept t slots row test o e u g h = rebuilt-kept t slots row test o (select_removed t) (select_removed-keeps t slots row test o g) e u h

pub without_merge-kept : MakesKept without_merge
without_merge-kept t slots row test o e u g h = rebuilt-kept t slots row test o (merge_removed t) (merge_removed-keeps t slots row test o g) e u h
