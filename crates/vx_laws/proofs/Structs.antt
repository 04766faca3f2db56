-- That what the rules on structs give fits the types of the typing table, but for faults.
use Rattle.std.proofs.Common.{◌≡◌, refl, ap, sym, ◌∙◌, Bool, true, false, cond, not, ◌&&◌, ◌||◌, Option, Some, None, subst, List, [], ◌∷◌, ◌++◌, Result, Ok}
use Rattle.std.specs.Prelude.{unwrap_or, option_map, ok_or, nat_eq, length}
use Rattle.std.specs.Str.{bytes_eq}
use Rattle.std.specs.List.{list_all, flat_map, filter, AllByRecursion, AllZip}
use Rattle.std.proofs.lemmas.Bool.{and_parts, and_from, or_left, or_right}
use Rattle.vx_dtype.specs.declared.Nullability.{Nullability}
use Rattle.vx_dtype.specs.declared.Nullability.TheVariants.{NonNullable, Nullable}
use Rattle.vx_dtype.specs.Types.{Bytes, Ty, bool_ty, int_ty, text_ty, list_ty, struct_ty, Fields, no_fields, field}
use Rattle.vx_dtype.specs.TypeRules.{is_nullable, nullability_of, union, with_nullability, widened, fields_of, field_names, field_type, has_name, distinct_names}
use Rattle.vx_dtype.specs.Values.{Val, null_val, bool_val, int_val, text_val, list_val, struct_val, fault, Members, no_members, member}
use Rattle.vx_dtype.specs.Fits.{fits_but_for_faults, members_fit_but_for_faults}
use Rattle.vx_dtype.specs.Structs.{member_named, field_of, members_at, members_without, first_names}
use Rattle.vx_expr.specs.declared.FieldSelection.{FieldSelection}
use Rattle.vx_expr.specs.declared.FieldSelection.TheVariants.{Include, Exclude}
use Rattle.vx_dtype.specs.StructTypes.{is_struct_ty, fields_at, all_known}
use Rattle.vx_dtype.specs.Zipped.{zipped}
use Rattle.vx_expr.specs.Selections.{listed_names}
use Rattle.vx_semantics.specs.Typing.{Refusal, not_struct, nullable_select, unknown_field, duplicate_field, type_mismatch, unless, item_type, fields_without, selected_fields, included_once, select_type, pack_type, names_in, type_in, merged_type_at, merged_fields_at, merge_type}
use Rattle.vx_semantics.specs.Merging.{merged_names}
use Rattle.vx_semantics.specs.Meaning.{select3, Source, source_names, merged_value, merged_members, merged, zip_members}
use Rattle.vx_laws.proofs.Inverting.{unless-ok, Ok-same, bytes_same, bytes_eq-itself}
use Rattle.vx_laws.proofs.Fitting.{is_nullable-left, is_nullable-right, null-fits}
use Rattle.vx_laws.proofs.Merging.{some_gives, some_gives-step, some_gives-here, some_gives-later, some_gives-first, merged_type_at-step, merged_value-step}

-- a value keeps fitting where its type becomes nullable
pub renulled-fits : (v : Val) (t : Ty) (n : Nullability) → (is_nullable (nullability_of t) ≡ true → is_nullable n ≡ true)
    → fits_but_for_faults v t ≡ true → fits_but_for_faults v (with_nullability t n) ≡ true
unfolding fits_but_for_faults
renulled-fits null_val (bool_ty m) n k h = k h
renulled-fits null_val (int_ty p m) n k h = k h
renulled-fits null_val (text_ty m) n k h = k h
renulled-fits null_val (list_ty e m) n k h = k h
renulled-fits null_val (struct_ty fs m) n k h = k h
renulled-fits (bool_val b) (bool_ty m) n k h = h
renulled-fits (int_val p b) (bool_ty m) n k h = h
renulled-fits (text_val b) (bool_ty m) n k h = h
renulled-fits (list_val b) (bool_ty m) n k h = h
renulled-fits (struct_val b) (bool_ty m) n k h = h
renulled-fits fault (bool_ty m) n k h = h
renulled-fits _ _ n k h = h

pub widened-fits : (v : Val) (t : Ty) (n : Nullability) → fits_but_for_faults v t ≡ true → fits_but_for_faults v (widened t n) ≡ true
widened-fits v t n h = renulled-fits v t (union (nullability_of t) n) (is_nullable-left (nullability_of t) n) h

widened-nullable : (t : Ty) (n : Nullability) → is_nullable n ≡ true → is_nullable (nullability_of (widened t n)) ≡ true
widened-nullable (bool_ty m) n h = is_nullable-right m n h
widened-nullable (int_ty p m) n h = is_nullable-right m n h
widened-nullable (text_ty m) n h = is_nullable-right m n h
widened-nullable (list_ty e m) n h = is_nullable-right m n h
widened-nullable (struct_ty fs m) n h = is_nullable-right m n h

-- of members that fit fields: the first has the field's name, its value fits, and the rest fit
pub record MemberFits (f : Bytes) (x : Val) (ms : Members) (g : Bytes) (t : Ty) (fs : Fields) : Type 0 where
  pub same : f ≡ g
  pub first : fits_but_for_faults x t ≡ true
  pub rest : members_fit_but_for_faults ms fs ≡ true

pub member-fits : (f : Bytes) (x : Val) (ms : Members) (g : Bytes) (t : Ty) (fs : Fields)
    → members_fit_but_for_faults (member f x ms) (field g t fs) ≡ true → MemberFits f x ms g t fs
unfolding fits_but_for_faults
member-fits f x ms g t fs h =
    let parts = and_parts (bytes_eq f g) (fits_but_for_faults x t && members_fit_but_for_faults ms fs) h in
    let more = and_parts (fits_but_for_faults x t) (members_fit_but_for_faults ms fs) parts.1 in
    record { same = bytes_same f g parts.0; first = more.0; rest = more.1 }

pub members-fit : (f : Bytes) (x : Val) (ms : Members) (t : Ty) (fs : Fields) → fits_but_for_faults x t ≡ true → members_fit_but_for_faults ms fs ≡ true
    → members_fit_but_for_faults (member f x ms) (field f t fs) ≡ true
unfolding fits_but_for_faults
members-fit f x ms t fs h k =
    and_from (bytes_eq f f) (fits_but_for_faults x t && members_fit_but_for_faults ms fs) (bytes_eq-itself f) (and_from (fits_but_for_faults x t) (members_fit_but_for_faults ms fs) h k)

pub no-member-fits : (f : Bytes) (x : Val) (ms : Members) → members_fit_but_for_faults (member f x ms) no_fields ≡ true → ⊥
unfolding fits_but_for_faults
no-member-fits f x ms h = cc

pub no-field-fits : (f : Bytes) (t : Ty) (fs : Fields) → members_fit_but_for_faults no_members (field f t fs) ≡ true → ⊥
unfolding fits_but_for_faults
no-field-fits f t fs h = cc

-- what a struct type has under a name, a value has that fits it
pub field-fits : (f : Bytes) (ms : Members) (fs : Fields) (w : Ty) → members_fit_but_for_faults ms fs ≡ true → field_type f fs ≡ Some w
    → fits_but_for_faults (unwrap_or (member_named f ms) fault) w ≡ true
field-fits f no_members no_fields w h e = let no : ⊥ = cc in absurd no
field-fits f no_members (field g t fs) w h e = absurd (no-field-fits g t fs h)
field-fits f (member g x ms) no_fields w h e = absurd (no-member-fits g x ms h)
field-fits f (member g x ms) (field k t fs) w h e =
    let m = member-fits g x ms k t fs h in
    by-test (bytes_eq f g) (subst (λ (z : Bytes). cond (bytes_eq f z) (Some t) (field_type f fs) ≡ Some w) (sym m.same) e) m.first (field-fits f ms fs w m.rest)
  where
    by-test : (b : Bool) → cond b (Some t) (field_type f fs) ≡ Some w → fits_but_for_faults x t ≡ true → (field_type f fs ≡ Some w → fits_but_for_faults (unwrap_or (member_named f ms) fault) w ≡ true)
        → fits_but_for_faults (unwrap_or (cond b (Some x) (member_named f ms)) fault) w ≡ true
    by-test true d a r = let same : t ≡ w = cc in subst (λ (z : Ty). fits_but_for_faults x z ≡ true) same a
    by-test false d a r = r d

pub struct-fits : (ms : Members) (fs : Fields) (n : Nullability) → members_fit_but_for_faults ms fs ≡ true → fits_but_for_faults (struct_val ms) (struct_ty fs n) ≡ true
unfolding fits_but_for_faults
struct-fits ms fs n h = h

pub field_of-fits : (f : Bytes) (v : Val) (fs : Fields) (n : Nullability) (w : Ty) → fits_but_for_faults v (struct_ty fs n) ≡ true → field_type f fs ≡ Some w
    → fits_but_for_faults (field_of f v) (widened w n) ≡ true
unfolding fits_but_for_faults
field_of-fits f null_val fs n w h e = null-fits (widened w n) (widened-nullable w n h)
field_of-fits f (struct_val ms) fs n w h e = widened-fits (unwrap_or (member_named f ms) fault) w n (field-fits f ms fs w h e)
field_of-fits f _ fs n w h e = let no : ⊥ = cc in absurd no

-- a value of a struct type that is not nullable is a struct whose members fit the fields
pub record IsStructOf (v : Val) (fs : Fields) : Type 0 where
  pub members : Members
  pub is : v ≡ struct_val members
  pub fit : members_fit_but_for_faults members fs ≡ true

pub struct-value : (v : Val) (fs : Fields) → fits_but_for_faults v (struct_ty fs NonNullable) ≡ true → IsStructOf v fs
unfolding fits_but_for_faults
struct-value (struct_val ms) fs h = record { members = ms; is = refl; fit = h }
struct-value _ fs h = let no : ⊥ = cc in absurd no

-- a type whose item has a type is a struct with such a field
pub record HasItem (f : Bytes) (t u : Ty) : Type 0 where
  pub fields : Fields
  pub nullability : Nullability
  pub own : Ty
  pub is : t ≡ struct_ty fields nullability
  pub found : field_type f fields ≡ Some own
  pub gives : u ≡ widened own nullability

pub item_type-ok : (f : Bytes) (t u : Ty) → item_type f t ≡ Ok u → HasItem f t u
item_type-ok f (struct_ty fs n) u h = by-field (field_type f fs) refl h
  where
    by-field : (o : Option Ty) → field_type f fs ≡ o → ok_or (option_map (λ (w : Ty). widened w n) o) unknown_field ≡ Ok u → HasItem f (struct_ty fs n) u
    by-field None e k = let no : ⊥ = cc in absurd no
    by-field (Some w) e k = record { fields = fs; nullability = n; own = w; is = refl; found = e; gives = Ok-same (Ok (widened w n)) u (widened w n) k refl }
item_type-ok f (bool_ty n) u h = let no : ⊥ = cc in absurd no
item_type-ok f (int_ty p n) u h = let no : ⊥ = cc in absurd no
item_type-ok f (text_ty n) u h = let no : ⊥ = cc in absurd no
item_type-ok f (list_ty e n) u h = let no : ⊥ = cc in absurd no

pub item-fits : (f : Bytes) (v : Val) (t u : Ty) → fits_but_for_faults v t ≡ true → item_type f t ≡ Ok u → fits_but_for_faults (field_of f v) u ≡ true
item-fits f v t u h e =
    let k = item_type-ok f t u e in
    subst (λ (z : Ty). fits_but_for_faults (field_of f v) z ≡ true) (sym k.gives)
    (field_of-fits f v k.fields k.nullability k.own (subst (λ (z : Ty). fits_but_for_faults v z ≡ true) k.is h) k.found)

-- a name that a struct type has, it has a type for
pub record HasField (f : Bytes) (fs : Fields) : Type 0 where
  pub own : Ty
  pub found : field_type f fs ≡ Some own

pub has_field : (f : Bytes) (fs : Fields) → has_name f (field_names fs) ≡ true → HasField f fs
has_field f no_fields h = let no : ⊥ = cc in absurd no
has_field f (field g t fs) h = let r = by-test (bytes_eq f g) h (has_field f fs) in record { own = r.0; found = r.1 }
  where
    by-test : (b : Bool) → (b || has_name f (field_names fs)) ≡ true → (has_name f (field_names fs) ≡ true → HasField f fs) → (w : Ty) × (cond b (Some t) (field_type f fs) ≡ Some w)
    by-test true k r = (t, refl)
    by-test false k r = ((r k).own, (r k).found)

-- the included fields
pub members_at-fit : (names : List Bytes) (ms : Members) (fs : Fields) → members_fit_but_for_faults ms fs ≡ true → list_all (λ f. has_name f (field_names fs)) names ≡ true
    → members_fit_but_for_faults (members_at names (struct_val ms)) (fields_at names fs) ≡ true
unfolding fits_but_for_faults
members_at-fit [] ms fs h k = refl
members_at-fit (f ∷ names) ms fs h k =
    let parts = and_parts (has_name f (field_names fs)) (list_all (λ g. has_name g (field_names fs)) names) k in
    let found = has_field f fs parts.0 in
    rw found.found
    (members-fit f (unwrap_or (member_named f ms) fault) (members_at names (struct_val ms)) found.own (fields_at names fs) (field-fits f ms fs found.own h found.found)
    (members_at-fit names ms fs h parts.1))

-- the fields that are not excluded
pub members_without-fit : (names : List Bytes) (ms : Members) (fs : Fields) → members_fit_but_for_faults ms fs ≡ true
    → members_fit_but_for_faults (members_without names ms) (fields_without names fs) ≡ true
unfolding fits_but_for_faults
members_without-fit names no_members no_fields h = refl
members_without-fit names no_members (field g t fs) h = absurd (no-field-fits g t fs h)
members_without-fit names (member g x ms) no_fields h = absurd (no-member-fits g x ms h)
members_without-fit names (member g x ms) (field k t fs) h =
    let m = member-fits g x ms k t fs h in
    subst (λ (z : Bytes). members_fit_but_for_faults (members_without names (member g x ms)) (fields_without names (field z t fs)) ≡ true) m.same
    (by-test (has_name g names) m.first (members_without-fit names ms fs m.rest))
  where
    by-test : (b : Bool) → fits_but_for_faults x t ≡ true → members_fit_but_for_faults (members_without names ms) (fields_without names fs) ≡ true
        → members_fit_but_for_faults (cond b (members_without names ms) (member g x (members_without names ms))) (cond b (fields_without names fs) (field g t (fields_without names fs))) ≡ true
    by-test true a r = r
    by-test false a r = members-fit g x (members_without names ms) t (fields_without names fs) a r

-- a select with a type is of a struct that is not nullable, whose names are known
pub record Selects (s : FieldSelection) (t u : Ty) : Type 0 where
  pub fields : Fields
  pub is : t ≡ struct_ty fields NonNullable
  pub known : all_known (listed_names s) fields ≡ true
  pub gives : u ≡ struct_ty (selected_fields s fields) NonNullable

pub select_type-ok : (s : FieldSelection) (t u : Ty) → select_type s t ≡ Ok u → Selects s t u
select_type-ok s (struct_ty fs NonNullable) u h =
    let made : Result Ty Refusal = Ok (struct_ty (selected_fields s fs) NonNullable) in
    let once = unless (included_once s) duplicate_field made in
    let a = unless-ok true nullable_select (unless (all_known (listed_names s) fs) unknown_field once) u h in
    let b = unless-ok (all_known (listed_names s) fs) unknown_field once u a.gave in
    let c = unless-ok (included_once s) duplicate_field made u b.gave in
    record { fields = fs; is = refl; known = b.holds; gives = Ok-same (Ok u) u (struct_ty (selected_fields s fs) NonNullable) refl (sym c.gave) }
select_type-ok s (struct_ty fs Nullable) u h = let no : ⊥ = cc in absurd no
select_type-ok s (bool_ty n) u h = let no : ⊥ = cc in absurd no
select_type-ok s (int_ty p n) u h = let no : ⊥ = cc in absurd no
select_type-ok s (text_ty n) u h = let no : ⊥ = cc in absurd no
select_type-ok s (list_ty e n) u h = let no : ⊥ = cc in absurd no

selected-fit : (s : FieldSelection) (ms : Members) (fs : Fields) → members_fit_but_for_faults ms fs ≡ true → all_known (listed_names s) fs ≡ true
    → fits_but_for_faults (select3 s (struct_val ms)) (struct_ty (selected_fields s fs) NonNullable) ≡ true
selected-fit (Include names) ms fs h k = struct-fits (members_at names (struct_val ms)) (fields_at names fs) NonNullable (members_at-fit names ms fs h k)
selected-fit (Exclude names) ms fs h k = struct-fits (members_without names ms) (fields_without names fs) NonNullable (members_without-fit names ms fs h)

pub select3-fits : (s : FieldSelection) (v : Val) (t u : Ty) → fits_but_for_faults v t ≡ true → select_type s t ≡ Ok u → fits_but_for_faults (select3 s v) u ≡ true
select3-fits s v t u h e =
    let k = select_type-ok s t u e in
    let v' = struct-value v k.fields (subst (λ (z : Ty). fits_but_for_faults v z ≡ true) k.is h) in
    subst (λ (z : Ty). fits_but_for_faults (select3 s v) z ≡ true) (sym k.gives)
    (subst (λ (z : Val). fits_but_for_faults (select3 s z) (struct_ty (selected_fields s k.fields) NonNullable) ≡ true) (sym v'.is) (selected-fit s v'.members k.fields v'.fit k.known))

-- values and types in pairs
abbrev pub AllFit : List Val → List Ty → Type 0
AllFit vs ts = AllZip (λ v t. fits_but_for_faults v t ≡ true) vs ts

pub zip-fit : (names : List Bytes) (vs : List Val) (ts : List Ty) → AllFit vs ts → members_fit_but_for_faults (zip_members names vs) (zipped names ts) ≡ true
unfolding fits_but_for_faults
zip-fit [] vs ts h = refl
zip-fit (f ∷ names) [] [] h = refl
zip-fit (f ∷ names) (v ∷ vs) [] h = absurd h
zip-fit (f ∷ names) [] (t ∷ ts) h = absurd h
zip-fit (f ∷ names) (v ∷ vs) (t ∷ ts) h = members-fit f v (zip_members names vs) t (zipped names ts) h.0 (zip-fit names vs ts h.1)

pub pack-fits : (names : List Bytes) (n : Nullability) (vs : List Val) (ts : List Ty) (u : Ty) → AllFit vs ts → pack_type names n ts ≡ Ok u
    → fits_but_for_faults (struct_val (zip_members names vs)) u ≡ true
pack-fits names n vs ts u h e =
    let made : Result Ty Refusal = Ok (struct_ty (zipped names ts) n) in
    let sized = unless (nat_eq (length names) (length ts)) type_mismatch made in
    let a = unless-ok (distinct_names names) duplicate_field sized u e in
    let b = unless-ok (nat_eq (length names) (length ts)) type_mismatch made u a.gave in
    subst (λ (z : Ty). fits_but_for_faults (struct_val (zip_members names vs)) z ≡ true) (Ok-same (Ok u) (struct_ty (zipped names ts) n) u (sym b.gave) refl)
    (struct-fits (zip_members names vs) (zipped names ts) n (zip-fit names vs ts h))

-- the structs that go into a merge, each with its type
pub record SourceFits (s : Source) (t : Ty) : Type 0 where
  pub value : fits_but_for_faults s.whole t ≡ true
  pub named : s.names ≡ names_in t

abbrev pub AllSourcesFit : List Source → List Ty → Type 0
AllSourcesFit ss ts = AllZip SourceFits ss ts

pub some_gives-same : (f : Bytes) (ss : List Source) (ts : List Ty) → AllSourcesFit ss ts → some_gives source_names f ss ≡ some_gives names_in f ts
some_gives-same f [] [] h = refl
some_gives-same f (s ∷ ss) [] h = absurd h
some_gives-same f [] (t ∷ ts) h = absurd h
some_gives-same f (s ∷ ss) (t ∷ ts) h =
    some_gives-step source_names f s ss
    ∙ (ap (λ b. cond b true (has_name f s.names)) (some_gives-same f ss ts h.1)
    ∙ (ap (λ (ns : List Bytes). cond (some_gives names_in f ts) true (has_name f ns)) h.0.named ∙ sym (some_gives-step names_in f t ts)))

-- a merged field that some struct has
pub record MergedFits (f : Bytes) (ss : List Source) (ts : List Ty) : Type 0 where
  pub own : Ty
  pub found : merged_type_at f ts ≡ Some own
  pub fits : fits_but_for_faults (merged_value f ss) own ≡ true

-- a type with a field is a struct
has_field-struct : (f : Bytes) (t : Ty) (w : Ty) (v : Val) → field_type f (fields_of t) ≡ Some w → fits_but_for_faults v t ≡ true
    → fits_but_for_faults (field_of f v) (widened w (nullability_of t)) ≡ true
has_field-struct f (struct_ty fs n) w v e h = field_of-fits f v fs n w h e
has_field-struct f (bool_ty n) w v e h = let no : ⊥ = cc in absurd no
has_field-struct f (int_ty p n) w v e h = let no : ⊥ = cc in absurd no
has_field-struct f (text_ty n) w v e h = let no : ⊥ = cc in absurd no
has_field-struct f (list_ty d n) w v e h = let no : ⊥ = cc in absurd no

pub merged_value-fits : (f : Bytes) (ss : List Source) (ts : List Ty) → AllSourcesFit ss ts → some_gives names_in f ts ≡ true → MergedFits f ss ts
merged_value-fits f [] [] h k = let no : ⊥ = cc in absurd no
merged_value-fits f (s ∷ ss) [] h k = absurd h
merged_value-fits f [] (t ∷ ts) h k = absurd h
merged_value-fits f (s ∷ ss) (t ∷ ts) h k =
    let r = by-test (some_gives names_in f ts) refl (merged_value-fits f ss ts h.1) in
    let value = merged_value-step f s ss ∙ ap (λ b. cond b (merged_value f ss) (cond (has_name f s.names) (field_of f s.whole) fault)) (some_gives-same f ss ts h.1) in
    record {
      own = r.0;
      found = merged_type_at-step f t ts ∙ r.1;
      fits = subst (λ (v : Val). fits_but_for_faults v r.0 ≡ true) (sym value) r.2;
    }
  where
    by-test : (b : Bool) → some_gives names_in f ts ≡ b → (some_gives names_in f ts ≡ true → MergedFits f ss ts)
        → (w : Ty) × (cond b (merged_type_at f ts) (type_in f t) ≡ Some w)
        × (fits_but_for_faults (cond b (merged_value f ss) (cond (has_name f s.names) (field_of f s.whole) fault)) w ≡ true)
    by-test true e r = ((r e).own, (r e).found, (r e).fits)
    by-test false e r =
        let named = some_gives-first names_in f t ts e k in
        let here : has_name f s.names ≡ true = ap (has_name f) h.0.named ∙ named in
        let own = has_field f (fields_of t) named in (
          widened own.own (nullability_of t),
          ap (option_map (λ (w : Ty). widened w (nullability_of t))) own.found,
          subst (λ (b : Bool). fits_but_for_faults (cond b (field_of f s.whole) fault) (widened own.own (nullability_of t)) ≡ true) (sym here)
              (has_field-struct f t own.own s.whole own.found h.0.value),
        )

pub merged_members-fit : (names : List Bytes) (ss : List Source) (ts : List Ty) → AllSourcesFit ss ts → AllByRecursion (λ f. some_gives names_in f ts ≡ true) names
    → members_fit_but_for_faults (merged_members names ss) (merged_fields_at names ts) ≡ true
unfolding fits_but_for_faults
merged_members-fit [] ss ts h k = refl
merged_members-fit (f ∷ names) ss ts h k =
    let one = merged_value-fits f ss ts h k.0 in
    rw one.found
    (members-fit f (merged_value f ss) (merged_members names ss) one.own (merged_fields_at names ts) one.fits (merged_members-fit names ss ts h k.1))

-- what holds of each name holds of each of those that a filter keeps, and of the first appearances
pub all-filter : (P : Bytes → Type 0) (test : Bytes → Bool) (names : List Bytes) → AllByRecursion P names → AllByRecursion P (filter test names)
all-filter P test [] h = tt
all-filter P test (f ∷ names) h = by-test (test f) (all-filter P test names h.1)
  where
    by-test : (b : Bool) → AllByRecursion P (filter test names) → AllByRecursion P (cond b (f ∷ filter test names) (filter test names))
    by-test true r = (h.0, r)
    by-test false r = r

pub all-first_names : (P : Bytes → Type 0) (names : List Bytes) → AllByRecursion P names → AllByRecursion P (first_names names)
all-first_names P [] h = tt
all-first_names P (f ∷ names) h = (h.0, all-filter P (λ g. not (bytes_eq f g)) (first_names names) (all-first_names P names h.1))

pub all-append : (P : Bytes → Type 0) (xs ys : List Bytes) → AllByRecursion P xs → AllByRecursion P ys → AllByRecursion P (xs ++ ys)
all-append P [] ys h k = k
all-append P (x ∷ xs) ys h k = (h.0, all-append P xs ys h.1 k)

pub all-weaker : (P Q : Bytes → Type 0) (xs : List Bytes) → ((x : Bytes) → P x → Q x) → AllByRecursion P xs → AllByRecursion Q xs
all-weaker P Q [] w h = tt
all-weaker P Q (x ∷ xs) w h = (w x h.0, all-weaker P Q xs w h.1)

pub all-own_names : (names : List Bytes) → AllByRecursion (λ f. has_name f names ≡ true) names
all-own_names [] = tt
all-own_names (f ∷ names) =
    (or_left (bytes_eq f f) (has_name f names) (bytes_eq-itself f), all-weaker (λ g. has_name g names ≡ true) (λ g. has_name g (f ∷ names) ≡ true) names (λ g h. or_right (bytes_eq g f) (has_name g names) h) (all-own_names names))

pub all-given : (ts : List Ty) → AllByRecursion (λ f. some_gives names_in f ts ≡ true) (flat_map names_in ts)
all-given [] = tt
all-given (t ∷ ts) =
    all-append (λ f. some_gives names_in f (t ∷ ts) ≡ true) (names_in t) (flat_map names_in ts)
    (all-weaker (λ f. has_name f (names_in t) ≡ true) (λ f. some_gives names_in f (t ∷ ts) ≡ true) (names_in t) (λ f h. some_gives-here names_in f t ts h) (all-own_names (names_in t)))
    (all-weaker (λ f. some_gives names_in f ts ≡ true) (λ f. some_gives names_in f (t ∷ ts) ≡ true) (flat_map names_in ts) (λ f h. some_gives-later names_in f t ts h) (all-given ts))

pub source_names-same : (ss : List Source) (ts : List Ty) → AllSourcesFit ss ts → flat_map source_names ss ≡ flat_map names_in ts
source_names-same [] [] h = refl
source_names-same (s ∷ ss) [] h = absurd h
source_names-same [] (t ∷ ts) h = absurd h
source_names-same (s ∷ ss) (t ∷ ts) h =
    ap (λ (xs : List Bytes). xs ++ flat_map source_names ss) h.0.named ∙ ap (λ (xs : List Bytes). names_in t ++ xs) (source_names-same ss ts h.1)

pub merged-fits : (n : Nullability) (ss : List Source) (ts : List Ty) (u : Ty) → AllSourcesFit ss ts → merge_type n ts ≡ Ok u → fits_but_for_faults (merged ss) u ≡ true
merged-fits n ss ts u h e =
    let made : Result Ty Refusal = Ok (struct_ty (merged_fields_at (merged_names names_in ts) ts) n) in
    let a = unless-ok (list_all is_struct_ty ts) not_struct made u e in
    subst (λ (z : Ty). fits_but_for_faults (merged ss) z ≡ true) (Ok-same (Ok u) (struct_ty (merged_fields_at (merged_names names_in ts) ts) n) u (sym a.gave) refl)
    (subst (λ (xs : List Bytes). fits_but_for_faults (struct_val (merged_members (first_names xs) ss)) (struct_ty (merged_fields_at (merged_names names_in ts) ts) n) ≡ true) (sym (source_names-same ss ts h))
    (struct-fits (merged_members (merged_names names_in ts) ss) (merged_fields_at (merged_names names_in ts) ts) n
    (merged_members-fit (merged_names names_in ts) ss ts h (all-first_names (λ f. some_gives names_in f ts ≡ true) (flat_map names_in ts) (all-given ts)))))
