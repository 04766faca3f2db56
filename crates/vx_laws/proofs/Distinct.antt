-- The structs in the type of a strictly typed expression have no name twice; so their values are told by their fields.
use Rattle.std.proofs.Common.{◌≡◌, refl, ap, sym, ◌∙◌, Bool, true, false, cond, not, ◌&&◌, Option, Some, None, subst, List, [], ◌∷◌, Result, Ok, suc, arith}
use Rattle.std.specs.Prelude.{unwrap_or, option_map, nat_eq, length}
use Rattle.std.specs.Str.{bytes_eq}
use Rattle.std.specs.List.{list_all, flat_map, filter, AllByRecursion}
use Rattle.std.proofs.lemmas.Bool.{eqb-true, eq-eqb, and_parts, and_from, or_parts, or_from}
use Rattle.vx_dtype.specs.declared.Nullability.{Nullability}
use Rattle.vx_dtype.specs.declared.Nullability.TheVariants.{NonNullable, Nullable}
use Rattle.vx_dtype.specs.Types.{Bytes, Ty, bool_ty, int_ty, text_ty, list_ty, struct_ty, Fields, no_fields, field}
use Rattle.vx_dtype.specs.TypeRules.{nullability_of, union, with_nullability, widened, is_plain, is_bool_ty, is_int_ty, is_text_ty, alike, fields_of, field_names, field_type, has_name, distinct_names, no_name_twice, no_name_twice_below}
use Rattle.vx_dtype.specs.Values.{Val, struct_val, fault, Members, no_members, member}
use Rattle.vx_dtype.specs.Fits.{fits, fits_but_for_faults, members_fit_but_for_faults}
use Rattle.vx_dtype.specs.Casts.{takes_cast}
use Rattle.vx_dtype.specs.Structs.{member_named, members_at, first_names}
use Rattle.vx_expr.specs.declared.Operator.{Operator}
use Rattle.vx_expr.specs.declared.FieldSelection.{FieldSelection}
use Rattle.vx_expr.specs.declared.FieldSelection.TheVariants.{Include, Exclude}
use Rattle.vx_expr.specs.Trees.{Tree, root, literal, get_item, binary, not_of, is_null_of, like, between, cast, list_contains, pack, merge, select, dynamic, Trees, no_trees, tree}
use Rattle.vx_dtype.specs.StructTypes.{is_struct_ty, with_field, fields_at, all_known}
use Rattle.vx_dtype.specs.Zipped.{zipped}
use Rattle.vx_expr.specs.Selections.{listed_names}
use Rattle.vx_semantics.specs.Typing.{Refusal, not_struct, nullable_select, unknown_field, duplicate_field, type_mismatch, and_then, unless, distinct_type, item_type, fields_without, selected_fields, included_once, select_type, pack_type, names_in, type_in, merged_type_at, merged_fields_at, merge_type, union_of, equal_plain, binary_type, not_type, like_type, between_type, contains_type, cast_type, dynamic_type, typed_of, all_typed}
use Rattle.vx_semantics.specs.Merging.{merged_names}
use Rattle.vx_laws.proofs.Inverting.{and_then-ok, unless-ok, Ok-same, bytes_same, bytes_eq-itself}
use Rattle.vx_laws.proofs.Merging.{some_gives, some_gives-first, merged_type_at-step}
use Rattle.vx_laws.proofs.Fitting.{takes_cast-plain}
use Rattle.vx_laws.proofs.Structs.{member-fits, no-member-fits, no-field-fits, item_type-ok, has_field, all-given, all-first_names}
use Rattle.vx_laws.proofs.Preserving.{one_test}

-- the test of names is symmetric
pub bytes_differ : (f g : Bytes) → bytes_eq f g ≡ false → bytes_eq g f ≡ false
bytes_differ f g h = by-test (bytes_eq g f) refl
  where
    by-test : (b : Bool) → bytes_eq g f ≡ b → bytes_eq g f ≡ false
    by-test false e = e
    by-test true e =
        let same : f ≡ g = sym (bytes_same g f e) in
        let twice : bytes_eq f g ≡ true = subst (λ (z : Bytes). bytes_eq f z ≡ true) same (bytes_eq-itself f) in
        let no : ⊥ = cc in
        absurd no

-- names that a filter leaves out
pub has_name-filter : (f : Bytes) (test : Bytes → Bool) (names : List Bytes) → has_name f names ≡ false → has_name f (filter test names) ≡ false
has_name-filter f test [] h = refl
has_name-filter f test (g ∷ names) h =
    let parts = or_parts (bytes_eq f g) (has_name f names) h in
    by-test (test g) parts.0 (has_name-filter f test names parts.1)
  where
    by-test : (b : Bool) → bytes_eq f g ≡ false → has_name f (filter test names) ≡ false → has_name f (cond b (g ∷ filter test names) (filter test names)) ≡ false
    by-test true e r = or_from (bytes_eq f g) (has_name f (filter test names)) e r
    by-test false e r = r

pub not-has : (b : Bool) → not b ≡ true → b ≡ false
not-has false h = refl
not-has true h = let no : ⊥ = cc in absurd no

pub has-not : (b : Bool) → b ≡ false → not b ≡ true
has-not false h = refl
has-not true h = let no : ⊥ = cc in absurd no

pub distinct-filter : (test : Bytes → Bool) (names : List Bytes) → distinct_names names ≡ true → distinct_names (filter test names) ≡ true
distinct-filter test [] h = refl
distinct-filter test (f ∷ names) h =
    let parts = and_parts (not (has_name f names)) (distinct_names names) h in
    by-test (test f) (has_name-filter f test names (not-has (has_name f names) parts.0)) (distinct-filter test names parts.1)
  where
    by-test : (b : Bool) → has_name f (filter test names) ≡ false → distinct_names (filter test names) ≡ true → distinct_names (cond b (f ∷ filter test names) (filter test names)) ≡ true
    by-test true e r = and_from (not (has_name f (filter test names))) (distinct_names (filter test names)) (has-not (has_name f (filter test names)) e) r
    by-test false e r = r

-- a name that a filter takes out is not left
has_no_name : (f : Bytes) (names : List Bytes) → has_name f (filter (λ g. not (bytes_eq f g)) names) ≡ false
has_no_name f [] = refl
has_no_name f (g ∷ names) = by-test (bytes_eq f g) refl (has_no_name f names)
  where
    by-test : (b : Bool) → bytes_eq f g ≡ b → has_name f (filter (λ g. not (bytes_eq f g)) names) ≡ false
        → has_name f (cond (not b) (g ∷ filter (λ g. not (bytes_eq f g)) names) (filter (λ g. not (bytes_eq f g)) names)) ≡ false
    by-test true e r = r
    by-test false e r = or_from (bytes_eq f g) (has_name f (filter (λ h. not (bytes_eq f h)) names)) e r

pub distinct-first_names : (names : List Bytes) → distinct_names (first_names names) ≡ true
distinct-first_names [] = refl
distinct-first_names (f ∷ names) =
    let rest = filter (λ g. not (bytes_eq f g)) (first_names names) in
    and_from (not (has_name f rest)) (distinct_names rest) (has-not (has_name f rest) (has_no_name f (first_names names)))
    (distinct-filter (λ g. not (bytes_eq f g)) (first_names names) (distinct-first_names names))

-- fields with distinct names, whose own types have no name twice
pub record AreDistinct (fs : Fields) : Type 0 where
  pub names : distinct_names (field_names fs) ≡ true
  pub below : no_name_twice_below fs ≡ true

pub struct-distinct : (fs : Fields) (n : Nullability) → no_name_twice (struct_ty fs n) ≡ true → AreDistinct fs
unfolding no_name_twice
struct-distinct fs n h = let parts = and_parts (distinct_names (field_names fs)) (no_name_twice_below fs) h in record { names = parts.0; below = parts.1 }

pub distinct-struct : (fs : Fields) (n : Nullability) → AreDistinct fs → no_name_twice (struct_ty fs n) ≡ true
unfolding no_name_twice
distinct-struct fs n h = and_from (distinct_names (field_names fs)) (no_name_twice_below fs) h.names h.below

-- nullability at the first level doesn't matter
pub distinct-renulled : (t : Ty) (n : Nullability) → no_name_twice t ≡ true → no_name_twice (with_nullability t n) ≡ true
unfolding no_name_twice
distinct-renulled (bool_ty m) n h = h
distinct-renulled (int_ty p m) n h = h
distinct-renulled (text_ty m) n h = h
distinct-renulled (list_ty e m) n h = h
distinct-renulled (struct_ty fs m) n h = h

field_type-distinct : (f : Bytes) (fs : Fields) (w : Ty) → no_name_twice_below fs ≡ true → field_type f fs ≡ Some w → no_name_twice w ≡ true
unfolding no_name_twice
field_type-distinct f no_fields w h e = let no : ⊥ = cc in absurd no
field_type-distinct f (field g t fs) w h e =
    let parts = and_parts (no_name_twice t) (no_name_twice_below fs) h in
    by-test (bytes_eq f g) parts.0 (field_type-distinct f fs w parts.1) e
  where
    by-test : (b : Bool) → no_name_twice t ≡ true → (field_type f fs ≡ Some w → no_name_twice w ≡ true) → cond b (Some t) (field_type f fs) ≡ Some w → no_name_twice w ≡ true
    by-test true a r k = let same : t ≡ w = cc in subst (λ (z : Ty). no_name_twice z ≡ true) same a
    by-test false a r k = r k

plain-distinct : (t : Ty) → is_plain t ≡ true → no_name_twice t ≡ true
unfolding no_name_twice
plain-distinct (bool_ty n) h = refl
plain-distinct (int_ty p n) h = refl
plain-distinct (text_ty n) h = refl
plain-distinct _ h = let no : ⊥ = cc in absurd no

bool-distinct : (n : Nullability) → no_name_twice (bool_ty n) ≡ true
unfolding no_name_twice
bool-distinct n = refl

-- one more field
more-distinct : (f : Bytes) (t : Ty) (fs : Fields) → no_name_twice t ≡ true → no_name_twice_below fs ≡ true → no_name_twice_below (field f t fs) ≡ true
unfolding no_name_twice
more-distinct f t fs h k = and_from (no_name_twice t) (no_name_twice_below fs) h k

none-distinct : no_name_twice_below no_fields ≡ true
unfolding no_name_twice
none-distinct = refl

-- the included fields have the included names
pub field_names-fields_at : (names : List Bytes) (fs : Fields) → all_known names fs ≡ true → field_names (fields_at names fs) ≡ names
field_names-fields_at names fs h = go names h
  where
    go : (xs : List Bytes) → list_all (λ f. has_name f (field_names fs)) xs ≡ true → field_names (fields_at xs fs) ≡ xs
    go [] k = refl
    go (f ∷ xs) k =
        let parts = and_parts (has_name f (field_names fs)) (list_all (λ g. has_name g (field_names fs)) xs) k in
        let found = has_field f fs parts.0 in
        rw found.found (ap (λ (ys : List Bytes). f ∷ ys) (go xs parts.1))

fields_at-below : (names : List Bytes) (fs : Fields) → no_name_twice_below fs ≡ true → no_name_twice_below (fields_at names fs) ≡ true
fields_at-below [] fs h = none-distinct
fields_at-below (f ∷ names) fs h = by-type (field_type f fs) refl (fields_at-below names fs h)
  where
    by-type : (o : Option Ty) → field_type f fs ≡ o → no_name_twice_below (fields_at names fs) ≡ true → no_name_twice_below (with_field f o (fields_at names fs)) ≡ true
    by-type None e r = r
    by-type (Some w) e r = more-distinct f w (fields_at names fs) (field_type-distinct f fs w h e) r

-- the fields that are not excluded
pub field_names-without : (names : List Bytes) (fs : Fields) → field_names (fields_without names fs) ≡ filter (λ g. not (has_name g names)) (field_names fs)
field_names-without names no_fields = refl
field_names-without names (field f t fs) = by-test (has_name f names) (field_names-without names fs)
  where
    by-test : (b : Bool) → field_names (fields_without names fs) ≡ filter (λ g. not (has_name g names)) (field_names fs)
        → field_names (cond b (fields_without names fs) (field f t (fields_without names fs)))
        ≡ cond (not b) (f ∷ filter (λ g. not (has_name g names)) (field_names fs)) (filter (λ g. not (has_name g names)) (field_names fs))
    by-test true r = r
    by-test false r = ap (λ (ys : List Bytes). f ∷ ys) r

fields_without-below : (names : List Bytes) (fs : Fields) → no_name_twice_below fs ≡ true → no_name_twice_below (fields_without names fs) ≡ true
unfolding no_name_twice
fields_without-below names no_fields h = refl
fields_without-below names (field f t fs) h =
    let parts = and_parts (no_name_twice t) (no_name_twice_below fs) h in
    by-test (has_name f names) parts.0 (fields_without-below names fs parts.1)
  where
    by-test : (b : Bool) → no_name_twice t ≡ true → no_name_twice_below (fields_without names fs) ≡ true
        → no_name_twice_below (cond b (fields_without names fs) (field f t (fields_without names fs))) ≡ true
    by-test true a r = r
    by-test false a r = and_from (no_name_twice t) (no_name_twice_below (fields_without names fs)) a r

selected-distinct : (s : FieldSelection) (fs : Fields) → AreDistinct fs → all_known (listed_names s) fs ≡ true → included_once s ≡ true → AreDistinct (selected_fields s fs)
selected-distinct (Include names) fs h k o = record {
  names = subst (λ (z : List Bytes). distinct_names z ≡ true) (sym (field_names-fields_at names fs k)) o;
  below = fields_at-below names fs h.below;
}
selected-distinct (Exclude names) fs h k o = record {
  names = subst (λ (z : List Bytes). distinct_names z ≡ true) (sym (field_names-without names fs)) (distinct-filter (λ g. not (has_name g names)) (field_names fs) h.names);
  below = fields_without-below names fs h.below;
}

select-distinct : (s : FieldSelection) (t u : Ty) → no_name_twice t ≡ true → select_type s t ≡ Ok u → no_name_twice u ≡ true
select-distinct s (struct_ty fs NonNullable) u d h =
    let made : Result Ty Refusal = Ok (struct_ty (selected_fields s fs) NonNullable) in
    let once = unless (included_once s) duplicate_field made in
    let a = unless-ok true nullable_select (unless (all_known (listed_names s) fs) unknown_field once) u h in
    let b = unless-ok (all_known (listed_names s) fs) unknown_field once u a.gave in
    let c = unless-ok (included_once s) duplicate_field made u b.gave in
    subst (λ (z : Ty). no_name_twice z ≡ true) (Ok-same (Ok u) (struct_ty (selected_fields s fs) NonNullable) u (sym c.gave) refl)
    (distinct-struct (selected_fields s fs) NonNullable (selected-distinct s fs (struct-distinct fs NonNullable d) b.holds c.holds))
select-distinct s (struct_ty fs Nullable) u d h = let no : ⊥ = cc in absurd no
select-distinct s (bool_ty n) u d h = let no : ⊥ = cc in absurd no
select-distinct s (int_ty p n) u d h = let no : ⊥ = cc in absurd no
select-distinct s (text_ty n) u d h = let no : ⊥ = cc in absurd no
select-distinct s (list_ty e n) u d h = let no : ⊥ = cc in absurd no

-- types without a name twice
abbrev pub AllDistinct : List Ty → Type 0
AllDistinct ts = AllByRecursion (λ t. no_name_twice t ≡ true) ts

-- a pack has the names of its values
pub field_names-zip : (names : List Bytes) (ts : List Ty) → nat_eq (length names) (length ts) ≡ true → field_names (zipped names ts) ≡ names
field_names-zip [] ts h = refl
field_names-zip (f ∷ names) [] h = let e : suc (length names) ≡ 0 = eqb-true (suc (length names)) 0 h in absurd (omega arith)
field_names-zip (f ∷ names) (t ∷ ts) h =
    let e : suc (length names) ≡ suc (length ts) = eqb-true (suc (length names)) (suc (length ts)) h in
    let k : length names ≡ length ts = omega arith in
    ap (λ (ys : List Bytes). f ∷ ys) (field_names-zip names ts (eq-eqb (length names) (length ts) k))

zip-below : (names : List Bytes) (ts : List Ty) → AllDistinct ts → no_name_twice_below (zipped names ts) ≡ true
zip-below [] ts h = none-distinct
zip-below (f ∷ names) [] h = none-distinct
zip-below (f ∷ names) (t ∷ ts) h = more-distinct f t (zipped names ts) h.0 (zip-below names ts h.1)

pack-distinct : (names : List Bytes) (n : Nullability) (ts : List Ty) (u : Ty) → AllDistinct ts → pack_type names n ts ≡ Ok u → no_name_twice u ≡ true
pack-distinct names n ts u d e =
    let made : Result Ty Refusal = Ok (struct_ty (zipped names ts) n) in
    let sized = unless (nat_eq (length names) (length ts)) type_mismatch made in
    let a = unless-ok (distinct_names names) duplicate_field sized u e in
    let b = unless-ok (nat_eq (length names) (length ts)) type_mismatch made u a.gave in
    subst (λ (z : Ty). no_name_twice z ≡ true) (Ok-same (Ok u) (struct_ty (zipped names ts) n) u (sym b.gave) refl)
    (distinct-struct (zipped names ts) n (record {
      names = subst (λ (z : List Bytes). distinct_names z ≡ true) (sym (field_names-zip names ts b.holds)) a.holds;
      below = zip-below names ts d;
    }))

-- a merge has the names that its structs have
pub record HasMerged (f : Bytes) (ts : List Ty) : Type 0 where
  pub own : Ty
  pub found : merged_type_at f ts ≡ Some own

fields_of-distinct : (t : Ty) → no_name_twice t ≡ true → no_name_twice_below (fields_of t) ≡ true
fields_of-distinct (struct_ty fs n) h = (struct-distinct fs n h).below
fields_of-distinct _ h = none-distinct

merged_type-distinct : (f : Bytes) (ts : List Ty) (w : Ty) → AllDistinct ts → merged_type_at f ts ≡ Some w → no_name_twice w ≡ true
merged_type-distinct f [] w d e = let no : ⊥ = cc in absurd no
merged_type-distinct f (t ∷ ts) w d e = by-test (some_gives names_in f ts) (merged_type-distinct f ts w d.1) (sym (merged_type_at-step f t ts) ∙ e)
  where
    by-type : (o : Option Ty) → field_type f (fields_of t) ≡ o → option_map (λ (v : Ty). widened v (nullability_of t)) o ≡ Some w → no_name_twice w ≡ true
    by-type None j k = let no : ⊥ = cc in absurd no
    by-type (Some v) j k =
        let same : widened v (nullability_of t) ≡ w = cc in
        subst (λ (z : Ty). no_name_twice z ≡ true) same (distinct-renulled v _ (field_type-distinct f (fields_of t) v (fields_of-distinct t d.0) j))

    by-test : (b : Bool) → (merged_type_at f ts ≡ Some w → no_name_twice w ≡ true) → cond b (merged_type_at f ts) (type_in f t) ≡ Some w → no_name_twice w ≡ true
    by-test true r k = r k
    by-test false r k = by-type (field_type f (fields_of t)) refl k

merged-below : (names : List Bytes) (ts : List Ty) → AllDistinct ts → no_name_twice_below (merged_fields_at names ts) ≡ true
merged-below [] ts d = none-distinct
merged-below (f ∷ names) ts d = by-type (merged_type_at f ts) refl (merged-below names ts d)
  where
    by-type : (o : Option Ty) → merged_type_at f ts ≡ o → no_name_twice_below (merged_fields_at names ts) ≡ true → no_name_twice_below (with_field f o (merged_fields_at names ts)) ≡ true
    by-type None e r = r
    by-type (Some w) e r = more-distinct f w (merged_fields_at names ts) (merged_type-distinct f ts w d e) r

pub has_merged : (f : Bytes) (ts : List Ty) → some_gives names_in f ts ≡ true → HasMerged f ts
has_merged f [] h = let no : ⊥ = cc in absurd no
has_merged f (t ∷ ts) h = let r = by-test (some_gives names_in f ts) refl (has_merged f ts) in record { own = r.0; found = merged_type_at-step f t ts ∙ r.1 }
  where
    by-test : (b : Bool) → some_gives names_in f ts ≡ b → (some_gives names_in f ts ≡ true → HasMerged f ts)
        → (w : Ty) × (cond b (merged_type_at f ts) (type_in f t) ≡ Some w)
    by-test true e r = ((r e).own, (r e).found)
    by-test false e r =
        let own = has_field f (fields_of t) (some_gives-first names_in f t ts e h) in
        (widened own.own (nullability_of t), ap (option_map (λ (w : Ty). widened w (nullability_of t))) own.found)

field_names-merged_at : (names : List Bytes) (ts : List Ty) → AllByRecursion (λ f. some_gives names_in f ts ≡ true) names → field_names (merged_fields_at names ts) ≡ names
field_names-merged_at [] ts h = refl
field_names-merged_at (f ∷ names) ts h =
    let found = has_merged f ts h.0 in
    rw found.found (ap (λ (ys : List Bytes). f ∷ ys) (field_names-merged_at names ts h.1))

pub field_names-merged : (ts : List Ty) → field_names (merged_fields_at (merged_names names_in ts) ts) ≡ merged_names names_in ts
field_names-merged ts = field_names-merged_at (merged_names names_in ts) ts (all-first_names (λ f. some_gives names_in f ts ≡ true) (flat_map names_in ts) (all-given ts))

merge-distinct : (n : Nullability) (ts : List Ty) (u : Ty) → AllDistinct ts → merge_type n ts ≡ Ok u → no_name_twice u ≡ true
merge-distinct n ts u d e =
    let made : Result Ty Refusal = Ok (struct_ty (merged_fields_at (merged_names names_in ts) ts) n) in
    let a = unless-ok (list_all is_struct_ty ts) not_struct made u e in
    subst (λ (z : Ty). no_name_twice z ≡ true) (Ok-same (Ok u) (struct_ty (merged_fields_at (merged_names names_in ts) ts) n) u (sym a.gave) refl)
    (distinct-struct (merged_fields_at (merged_names names_in ts) ts) n (record {
      names = subst (λ (z : List Bytes). distinct_names z ≡ true) (sym (field_names-merged ts)) (distinct-first_names (flat_map names_in ts));
      below = merged-below (merged_names names_in ts) ts d;
    }))

-- a boolean answer behind one test
bool_test : (b : Bool) (n : Nullability) (u : Ty) → unless b type_mismatch (Ok (bool_ty n)) ≡ Ok u → no_name_twice u ≡ true
bool_test b n u h = subst (λ (z : Ty). no_name_twice z ≡ true) (one_test b (bool_ty n) u h).1 (bool-distinct n)

binary-distinct : (op : Operator) (a b u : Ty) → no_name_twice a ≡ true → binary_type op a b ≡ Ok u → no_name_twice u ≡ true
binary-distinct Operator.Add a b u d h =
    let t = one_test (alike a b && is_int_ty a) (with_nullability a (union_of a b)) u h in
    subst (λ (z : Ty). no_name_twice z ≡ true) t.1 (distinct-renulled a (union_of a b) d)
binary-distinct Operator.Sub a b u d h =
    let t = one_test (alike a b && is_int_ty a) (with_nullability a (union_of a b)) u h in
    subst (λ (z : Ty). no_name_twice z ≡ true) t.1 (distinct-renulled a (union_of a b) d)
binary-distinct Operator.And a b u d h = bool_test (is_bool_ty a && is_bool_ty b) (union_of a b) u h
binary-distinct Operator.Or a b u d h = bool_test (is_bool_ty a && is_bool_ty b) (union_of a b) u h
binary-distinct _ a b u d h = bool_test (equal_plain a b) (union_of a b) u h

contains-distinct : (a b u : Ty) → contains_type a b ≡ Ok u → no_name_twice u ≡ true
contains-distinct (list_ty e n) b u h = bool_test (equal_plain e b) (union n (nullability_of b)) u h
contains-distinct _ b u h = let no : ⊥ = cc in absurd no

item-distinct : (f : Bytes) (t u : Ty) → no_name_twice t ≡ true → item_type f t ≡ Ok u → no_name_twice u ≡ true
item-distinct f t u d h =
    let k = item_type-ok f t u h in
    let below = struct-distinct k.fields k.nullability (subst (λ (z : Ty). no_name_twice z ≡ true) k.is d) in
    subst (λ (z : Ty). no_name_twice z ≡ true) (sym k.gives) (distinct-renulled k.own _ (field_type-distinct f k.fields k.own below.below k.found))

mutual
  unfolding typed_of

  -- a strictly typed expression has a type whose structs have no name twice
  pub typed-distinct : (t : Ty) (e : Tree) (u : Ty) → typed_of t e ≡ Ok u → no_name_twice u ≡ true
  typed-distinct t root u h =
      let a = unless-ok (no_name_twice t) duplicate_field (Ok t) u h in
      subst (λ (z : Ty). no_name_twice z ≡ true) (Ok-same (Ok t) t u refl a.gave) a.holds
  typed-distinct t (literal s) u h =
      let a = and_then-ok (distinct_type s.ty) (λ x. unless (fits s.value x) type_mismatch (Ok x)) u h in
      let b = unless-ok (no_name_twice s.ty) duplicate_field (Ok s.ty) a.given a.was in
      let c = unless-ok (fits s.value a.given) type_mismatch (Ok a.given) u a.gave in
      subst (λ (z : Ty). no_name_twice z ≡ true) (Ok-same (Ok s.ty) s.ty a.given refl b.gave ∙ Ok-same (Ok a.given) a.given u refl c.gave) b.holds
  typed-distinct t (get_item f d) u h =
      let a = and_then-ok (typed_of t d) (item_type f) u h in
      item-distinct f a.given u (typed-distinct t d a.given a.was) a.gave
  typed-distinct t (binary l op r) u h =
      let a = and_then-ok (typed_of t l) (λ x. and_then (typed_of t r) (binary_type op x)) u h in
      let b = and_then-ok (typed_of t r) (binary_type op a.given) u a.gave in
      binary-distinct op a.given b.given u (typed-distinct t l a.given a.was) b.gave
  typed-distinct t (not_of d) u h =
      let a = and_then-ok (typed_of t d) not_type u h in
      let b = one_test (is_bool_ty a.given) a.given u a.gave in
      subst (λ (z : Ty). no_name_twice z ≡ true) b.1 (typed-distinct t d a.given a.was)
  typed-distinct t (is_null_of d) u h =
      let a = and_then-ok (typed_of t d) (λ x. Ok (bool_ty NonNullable)) u h in
      subst (λ (z : Ty). no_name_twice z ≡ true) (Ok-same (Ok u) (bool_ty NonNullable) u (sym a.gave) refl) (bool-distinct NonNullable)
  typed-distinct t (like d p negated fold_case) u h =
      let a = and_then-ok (typed_of t d) (λ x. and_then (typed_of t p) (like_type x)) u h in
      let b = and_then-ok (typed_of t p) (like_type a.given) u a.gave in
      bool_test (is_text_ty a.given && is_text_ty b.given) (union_of a.given b.given) u b.gave
  typed-distinct t (between d lower upper options) u h =
      let a = and_then-ok (typed_of t d) (λ x. and_then (typed_of t lower) (λ y. and_then (typed_of t upper) (between_type x y))) u h in
      let b = and_then-ok (typed_of t lower) (λ y. and_then (typed_of t upper) (between_type a.given y)) u a.gave in
      let c = and_then-ok (typed_of t upper) (between_type a.given b.given) u b.gave in
      bool_test (equal_plain a.given b.given && equal_plain a.given c.given) (union (nullability_of a.given) (union_of b.given c.given)) u c.gave
  typed-distinct t (cast d target) u h =
      let a = and_then-ok (typed_of t d) (cast_type target) u h in
      let b = one_test (takes_cast a.given target) target u a.gave in
      subst (λ (z : Ty). no_name_twice z ≡ true) b.1 (plain-distinct target (takes_cast-plain a.given target b.0))
  typed-distinct t (list_contains l v) u h =
      let a = and_then-ok (typed_of t l) (λ x. and_then (typed_of t v) (contains_type x)) u h in
      let b = and_then-ok (typed_of t v) (contains_type a.given) u a.gave in
      contains-distinct a.given b.given u b.gave
  typed-distinct t (pack names es n) u h =
      let a = and_then-ok (all_typed t es) (pack_type names n) u h in
      pack-distinct names n a.given u (all_typed-distinct t es a.given a.was) a.gave
  typed-distinct t (merge es n) u h =
      let a = and_then-ok (all_typed t es) (merge_type n) u h in
      merge-distinct n a.given u (all_typed-distinct t es a.given a.was) a.gave
  typed-distinct t (select c d) u h =
      let a = and_then-ok (typed_of t d) (select_type c) u h in
      select-distinct c a.given u (typed-distinct t d a.given a.was) a.gave
  typed-distinct t (dynamic d op k slot default) u h =
      let a = and_then-ok (typed_of t d) (dynamic_type slot) u h in
      bool_test (equal_plain a.given slot) (union_of a.given slot) u a.gave

  pub all_typed-distinct : (t : Ty) (es : Trees) (us : List Ty) → all_typed t es ≡ Ok us → AllDistinct us
  all_typed-distinct t no_trees us h = subst (λ (z : List Ty). AllDistinct z) (Ok-same (Ok us) [] us (sym h) refl) tt
  all_typed-distinct t (tree d ds) us h =
      let a = and_then-ok (typed_of t d) (λ x. and_then (all_typed t ds) (λ xs. Ok (x ∷ xs))) us h in
      let b = and_then-ok (all_typed t ds) (λ xs. Ok (a.given ∷ xs)) us a.gave in
      subst (λ (z : List Ty). AllDistinct z) (Ok-same (Ok us) (a.given ∷ b.given) us (sym b.gave) refl)
      (typed-distinct t d a.given a.was, all_typed-distinct t ds b.given b.was)

-- a name that isn't looked for doesn't matter
members_at-past : (names : List Bytes) (f : Bytes) (x : Val) (ms : Members) → has_name f names ≡ false
    → members_at names (struct_val (member f x ms)) ≡ members_at names (struct_val ms)
members_at-past [] f x ms h = refl
members_at-past (g ∷ names) f x ms h =
    let parts = or_parts (bytes_eq f g) (has_name f names) h in
    rw (bytes_differ f g parts.0) (ap (member g (unwrap_or (member_named g ms) fault)) (members_at-past names f x ms parts.1))

-- members that fit fields with distinct names are told by their fields
pub members_at-own : (ms : Members) (fs : Fields) → members_fit_but_for_faults ms fs ≡ true → distinct_names (field_names fs) ≡ true → members_at (field_names fs) (struct_val ms) ≡ ms
unfolding fits_but_for_faults
members_at-own no_members no_fields h d = refl
members_at-own no_members (field g t fs) h d = absurd (no-field-fits g t fs h)
members_at-own (member g x ms) no_fields h d = absurd (no-member-fits g x ms h)
members_at-own (member g x ms) (field k t fs) h d =
    let m = member-fits g x ms k t fs h in
    let parts = and_parts (not (has_name k (field_names fs))) (distinct_names (field_names fs)) d in
    let past = members_at-past (field_names fs) g x ms (subst (λ (z : Bytes). has_name z (field_names fs) ≡ false) (sym m.same) (not-has (has_name k (field_names fs)) parts.0)) in
    let rest = members_at-own ms fs m.rest parts.1 in
    subst (λ (z : Bytes). members_at (z ∷ field_names fs) (struct_val (member g x ms)) ≡ member g x ms) m.same
    (rw (bytes_eq-itself g) (ap (member g x) (past ∙ rest)))
