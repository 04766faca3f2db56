-- The field of a struct at the place of its name.
use Rattle.std.proofs.Common.{◌≡◌, refl, ap, ◌∙◌, sym, ℕ, zero, suc, ◌+◌, ◌<◌, Bool, true, false, not, cond, nat_lt, Some, None, List, [], ◌∷◌, map, length, get_or, arith, unwrap_or}
use Rattle.std.specs.Str.{bytes_eq}
use Rattle.std.specs.List.{slice_get, position, position_or_len}
use Rattle.std.proofs.lemmas.List.{length-map}
use Rattle.vx_dtype.proofs.FieldsFrom.{length-field_types, slice_get-field_types}
use Rattle.vx_dtype.specs.Types.{Bytes, Ty, bool_ty, int_ty, text_ty, list_ty, struct_ty, Fields, no_fields, field}
use Rattle.vx_dtype.specs.declared.Nullability.{Nullability}
use Rattle.vx_dtype.specs.declared.values.ScalarValue.{ScalarValue}
use Rattle.vx_dtype.specs.RawViews.{raw_view, raws_of}
use Rattle.vx_dtype.proofs.ValuedLemmas.{valued-struct}
use Rattle.vx_column.specs.Columns.{seen}
use Rattle.vx_column.specs.Answers.{type_at_place}
use Rattle.vx_dtype.specs.TypeRules.{field_names, field_type, is_nullable, nullability_of, union, widened, distinct_names, no_name_twice, no_name_twice_below}
use Rattle.vx_dtype.specs.StructTypes.{field_types}
use Rattle.vx_dtype.specs.Values.{Raw, raw_null, raw_bool, raw_int, raw_text, raw_list, raw_struct, Raws, no_raws, raw, valued, members_valued, struct_val, fault}
use Rattle.vx_dtype.specs.Fits.{fits, fields_fit}
use Rattle.vx_dtype.specs.Structs.{member_named, field_of}
use Rattle.vx_column.proofs.FitLemmas.{both_of, valued_with_nullability, names_with_nullability, nullability_with, nullable_left, nullable_right}

-- the raw value at a place
abbrev pub raw_at : Raws → ℕ → Raw → Raw
raw_at no_raws i d = d
raw_at (raw x xs) zero d = x
raw_at (raw x xs) (suc i) d = raw_at xs i d

-- what is known of the field at the first place of a name: its value, and that it is of the field's type
pub record FieldAt (f : Bytes) (fs : Fields) (xs : Raws) (i : ℕ) (d : Raw) (t : Ty) : Type 0 where
  pub named : member_named f (members_valued xs fs) ≡ Some (valued (raw_at xs i d) t)
  pub typed : field_type f fs ≡ Some t
  pub fit : fits (raw_at xs i d) t ≡ true

first_step : (f g : Bytes) (u : Ty) (fs : Fields) (x : Raw) (xs : Raws) (d : Raw) (t : Ty) (b : Bool) (n i : ℕ) → bytes_eq f g ≡ b → cond (not b) (1 + n) 0 ≡ i → slice_get (u ∷ field_types fs) i ≡ Some t → fits x u ≡ true → ((j : ℕ) → n ≡ j → slice_get (field_types fs) j ≡ Some t → FieldAt f fs xs j d t) → FieldAt f (field g u fs) (raw x xs) i d t
unfolding valued
first_step f g u fs x xs d t true n zero e p q k rest =
    let s : u ≡ t = cc in
    record { named = rw e (ap (λ v. Some (valued x v)) s); typed = rw e (ap (λ v. Some v) s); fit = ap (fits x) (sym s) ∙ k }
first_step f g u fs x xs d t true n (suc i) e p q k rest = absurd cc
first_step f g u fs x xs d t false n zero e p q k rest = absurd (omega (arith, p))
first_step f g u fs x xs d t false n (suc i) e p q k rest =
    let same : n ≡ i = omega (arith, p) in
    let below = rest i same q in
    record { named = rw e below.named; typed = rw e below.typed; fit = below.fit }

pub field_first : (f : Bytes) (fs : Fields) (xs : Raws) (i : ℕ) (d : Raw) (t : Ty) → fields_fit xs fs ≡ true → position_or_len (bytes_eq f) (field_names fs) ≡ i → slice_get (field_types fs) i ≡ Some t → FieldAt f fs xs i d t
unfolding fits
field_first f no_fields xs i d t h p e = absurd cc
field_first f (field g u fs) no_raws i d t h p e = absurd cc
field_first f (field g u fs) (raw x xs) i d t h p e =
    let k = both_of (fits x u) (fields_fit xs fs) h in
    first_step f g u fs x xs d t (bytes_eq f g) (position_or_len (bytes_eq f) (field_names fs)) i refl p e k.0 (λ j s q. field_first f fs xs j d t k.1 s q)

-- the first place of a name that is there
pub placed : (b : Bool) (n i : ℕ) → cond b (Some n) None ≡ Some i → n ≡ i
placed true n i h = cc
placed false n i h = absurd cc

pub position_is : {X : Type 0} (p : X → Bool) (xs : List X) (i : ℕ) → position p xs ≡ Some i → position_or_len p xs ≡ i
position_is p xs i e = placed (nat_lt (position_or_len p xs) (length xs)) (position_or_len p xs) i e

-- as many values as fields
pub fields_fit_length : (xs : List ScalarValue) (fs : Fields) → fields_fit (raws_of (map raw_view xs)) fs ≡ true → length xs ≡ length (field_names fs)
unfolding fits
fields_fit_length [] no_fields h = refl
fields_fit_length [] (field f t fs) h = absurd cc
fields_fit_length (x ∷ xs) no_fields h = absurd cc
fields_fit_length (x ∷ xs) (field f t fs) h = ap (λ n. suc n) (fields_fit_length xs fs (both_of (fits (raw_view x) t) (fields_fit (raws_of (map raw_view xs)) fs) h).1)

-- the raw value at the place of a value
pub raw_at_view : (xs : List ScalarValue) (i : ℕ) (x : ScalarValue) → i < length xs → raw_at (raws_of (map raw_view xs)) i (raw_view x) ≡ raw_view (get_or xs i x)
raw_at_view [] i x h = absurd (omega arith)
raw_at_view (y ∷ xs) zero x h = refl
raw_at_view (y ∷ xs) (suc i) x h = raw_at_view xs i x (omega arith)

-- a value of a type is one of the type, nullable also where another is
pub fits_widened : (x : Raw) (t : Ty) (n : Nullability) → fits x t ≡ true → fits x (widened t n) ≡ true
unfolding fits
fits_widened raw_null t n e = ap is_nullable (nullability_with t (union (nullability_of t) n)) ∙ nullable_left (nullability_of t) n e
fits_widened (raw_bool b) (bool_ty m) n e = refl
fits_widened (raw_int i) (int_ty p m) n e = e
fits_widened (raw_text s) (text_ty m) n e = refl
fits_widened (raw_list xs) (list_ty t m) n e = e
fits_widened (raw_struct xs) (struct_ty fs m) n e = e
fits_widened _ _ n e = absurd cc

-- null is one of it where the other is nullable
pub null_widened : (t : Ty) (n : Nullability) → is_nullable n ≡ true → is_nullable (nullability_of (widened t n)) ≡ true
null_widened t n e = ap is_nullable (nullability_with t (union (nullability_of t) n)) ∙ nullable_right (nullability_of t) n e

pub place_within : (b : Bool) (n m i : ℕ) → nat_lt n m ≡ b → cond b (Some n) None ≡ Some i → i < m
place_within true n m i e h = let same : n ≡ i = cc in grind (arith, e, same)
place_within false n m i e h = absurd cc

-- the place of a name is within, and has a type
pub position_within : (f : Bytes) (fs : Fields) (i : ℕ) → position (bytes_eq f) (field_names fs) ≡ Some i → i < length (field_names fs)
position_within f fs i e = place_within (nat_lt (position_or_len (bytes_eq f) (field_names fs)) (length (field_names fs))) (position_or_len (bytes_eq f) (field_names fs)) (length (field_names fs)) i refl e

pub place_typed : (fs : Fields) (i : ℕ) → i < length (field_names fs) → slice_get (field_types fs) i ≡ Some (type_at_place fs i)
place_typed no_fields i h = absurd (omega arith)
place_typed (field f t fs) zero h = refl
place_typed (field f t fs) (suc i) h = place_typed fs i (omega arith)

-- so it is within what is seen as the types of the fields
pub place_among : {A : Type 0} (see : A → Ty) (f : Bytes) (fs : Fields) (xs : List A) (i : ℕ) → position (bytes_eq f) (field_names fs) ≡ Some i → map see xs ≡ field_types fs → i < length xs
place_among see f fs xs i p e = omega (arith, position_within f fs i p, length-field_types fs, ap length e, length-map xs see)

-- and what stands there is seen as the type of the place
pub type_placed : {A : Type 0} (see : A → Ty) (f : Bytes) (fs : Fields) (xs : List A) (i : ℕ) (x : A) → position (bytes_eq f) (field_names fs) ≡ Some i → map see xs ≡ field_types fs → x ≡ get_or xs i x → slice_get (field_types fs) i ≡ Some (see x)
type_placed see f fs xs i x p e is = slice_get-field_types see fs xs i x e (place_among see f fs xs i p e) is

-- the field at the place of its name, as a value of the field's type and nullable also where the struct is
pub field_made : (f : Bytes) (fs : Fields) (n : Nullability) (i : ℕ) (xs : List ScalarValue) (x y : ScalarValue) → position (bytes_eq f) (field_names fs) ≡ Some i → fields_fit (raws_of (map raw_view xs)) fs ≡ true → x ≡ get_or xs i x → raw_view y ≡ raw_view x → (fits (raw_view y) (widened (type_at_place fs i) n) ≡ true) × (seen (widened (type_at_place fs i) n) y ≡ field_of f (struct_val (members_valued (raws_of (map raw_view xs)) fs)))
field_made f fs n i xs x y p h a b =
    let t = type_at_place fs i in
    let q = place_typed fs i (position_within f fs i p) in
    let within : i < length xs = omega (arith, fields_fit_length xs fs h, position_within f fs i p) in
    let known = field_first f fs (raws_of (map raw_view xs)) i (raw_view x) t h (position_is (bytes_eq f) (field_names fs) i p) q in
    let here : raw_at (raws_of (map raw_view xs)) i (raw_view x) ≡ raw_view y = raw_at_view xs i x within ∙ ap raw_view (sym a) ∙ sym b in
    let fit : fits (raw_view y) t ≡ true = ap (λ r. fits r t) (sym here) ∙ known.fit in
    let value : member_named f (members_valued (raws_of (map raw_view xs)) fs) ≡ Some (valued (raw_view y) t) = known.named ∙ ap (λ r. Some (valued r t)) here in
    (fits_widened (raw_view y) t n fit, valued_with_nullability (raw_view y) t (union (nullability_of t) n) ∙ sym (ap (λ o. unwrap_or o fault) value))

-- the type of a name that is missing
missing_step : (f g : Bytes) (u : Ty) (fs : Fields) (b : Bool) (n : ℕ) → bytes_eq f g ≡ b → nat_lt (cond (not b) (1 + n) 0) (suc (length (field_names fs))) ≡ false → (nat_lt n (length (field_names fs)) ≡ false → field_type f fs ≡ None) → field_type f (field g u fs) ≡ None
missing_step f g u fs true n e h rest = absurd (grind (arith, h))
missing_step f g u fs false n e h rest = let below : nat_lt n (length (field_names fs)) ≡ false = grind (arith, h) in rw e (rest below)

type_missing : (f : Bytes) (fs : Fields) → nat_lt (position_or_len (bytes_eq f) (field_names fs)) (length (field_names fs)) ≡ false → field_type f fs ≡ None
type_missing f no_fields h = refl
type_missing f (field g u fs) h = missing_step f g u fs (bytes_eq f g) (position_or_len (bytes_eq f) (field_names fs)) refl h (type_missing f fs)

pub not_placed : (b : Bool) (n : ℕ) → cond b (Some n) None ≡ None → b ≡ false
not_placed true n h = absurd cc
not_placed false n h = refl

pub field_missing : (f : Bytes) (fs : Fields) → position (bytes_eq f) (field_names fs) ≡ None → field_type f fs ≡ None
field_missing f fs e = type_missing f fs (not_placed (nat_lt (position_or_len (bytes_eq f) (field_names fs)) (length (field_names fs))) (position_or_len (bytes_eq f) (field_names fs)) e)

-- the type at the first place of a name
typed_step : (f g : Bytes) (u : Ty) (fs : Fields) (t : Ty) (b : Bool) (n i : ℕ) → bytes_eq f g ≡ b → cond (not b) (1 + n) 0 ≡ i → slice_get (u ∷ field_types fs) i ≡ Some t → ((j : ℕ) → n ≡ j → slice_get (field_types fs) j ≡ Some t → field_type f fs ≡ Some t) → field_type f (field g u fs) ≡ Some t
typed_step f g u fs t true n zero e p q rest = let s : u ≡ t = cc in rw e (ap (λ v. Some v) s)
typed_step f g u fs t true n (suc i) e p q rest = absurd cc
typed_step f g u fs t false n zero e p q rest = absurd (omega (arith, p))
typed_step f g u fs t false n (suc i) e p q rest = let same : n ≡ i = omega (arith, p) in rw e (rest i same q)

type_first : (f : Bytes) (fs : Fields) (i : ℕ) (t : Ty) → position_or_len (bytes_eq f) (field_names fs) ≡ i → slice_get (field_types fs) i ≡ Some t → field_type f fs ≡ Some t
type_first f no_fields i t p e = absurd cc
type_first f (field g u fs) i t p e =
    typed_step f g u fs t (bytes_eq f g) (position_or_len (bytes_eq f) (field_names fs)) i refl p e (λ j s q. type_first f fs j t s q)

pub field_typed : (f : Bytes) (fs : Fields) (i : ℕ) (t : Ty) → position (bytes_eq f) (field_names fs) ≡ Some i → slice_get (field_types fs) i ≡ Some t → field_type f fs ≡ Some t
field_typed f fs i t p e = type_first f fs i t (position_is (bytes_eq f) (field_names fs) i p) e

-- the type of a field has no name twice where the struct's type has none
pub names_at : (fs : Fields) (i : ℕ) (t : Ty) → no_name_twice_below fs ≡ true → slice_get (field_types fs) i ≡ Some t → no_name_twice t ≡ true
unfolding no_name_twice
names_at no_fields i t h e = absurd cc
names_at (field f u fs) zero t h e = let s : u ≡ t = cc in ap no_name_twice (sym s) ∙ (both_of (no_name_twice u) (no_name_twice_below fs) h).0
names_at (field f u fs) (suc i) t h e = names_at fs i t (both_of (no_name_twice u) (no_name_twice_below fs) h).1 e

pub names_of_struct : (fs : Fields) (n : Nullability) → no_name_twice (struct_ty fs n) ≡ true → no_name_twice_below fs ≡ true
unfolding no_name_twice
names_of_struct fs n h = (both_of (distinct_names (field_names fs)) (no_name_twice_below fs) h).1

pub names_widened : (t : Ty) (n : Nullability) → no_name_twice t ≡ true → no_name_twice (widened t n) ≡ true
names_widened t n h = names_with_nullability t (union (nullability_of t) n) ∙ h

-- the values of a struct of a type fit its fields, and the struct stands for the struct of the members
pub parts-stand : (fs : Fields) (n : Nullability) (v : ScalarValue) (xs : List ScalarValue) → raw_view v ≡ raw_struct (raws_of (map raw_view xs)) → fits (raw_view v) (struct_ty fs n) ≡ true → (fields_fit (raws_of (map raw_view xs)) fs ≡ true) × (seen (struct_ty fs n) v ≡ struct_val (members_valued (raws_of (map raw_view xs)) fs))
unfolding fits
parts-stand fs n v xs is h =
    let fit : fields_fit (raws_of (map raw_view xs)) fs ≡ true = ap (λ r. fits r (struct_ty fs n)) (sym is) ∙ h in
    (fit, ap (λ r. valued r (struct_ty fs n)) is ∙ valued-struct (raws_of (map raw_view xs)) fs n fit)
