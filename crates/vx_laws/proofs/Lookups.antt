-- Fields of selected, merged and packed structs, found by name.
use Rattle.std.proofs.Common.{◌≡◌, refl, ap, sym, Bool, true, false, cond, ◌||◌, Option, Some, None, subst, List, [], ◌∷◌}
use Rattle.std.specs.Prelude.{unwrap_or}
use Rattle.std.specs.Str.{bytes_eq}
use Rattle.std.proofs.lemmas.Bool.{or_left, or_right}
use Rattle.vx_dtype.specs.Types.{Bytes, Ty, Fields, no_fields, field}
use Rattle.vx_dtype.specs.TypeRules.{field_type, has_name}
use Rattle.vx_dtype.specs.Values.{Val, struct_val, fault, Members, no_members, member}
use Rattle.vx_dtype.specs.Structs.{member_named, field_of, members_at, members_without}
use Rattle.vx_expr.specs.declared.FieldSelection.{FieldSelection}
use Rattle.vx_expr.specs.declared.FieldSelection.TheVariants.{Include, Exclude}
use Rattle.vx_semantics.specs.Typing.{fields_without, selected_fields, merged_type_at, merged_fields_at}
use Rattle.vx_dtype.specs.StructTypes.{with_field, fields_at}
use Rattle.vx_semantics.specs.Meaning.{select3, Source, merged_value, merged_members}
use Rattle.vx_laws.proofs.Inverting.{bytes_same}

-- a type that an included field has, the struct's field has
pub record Included (f : Bytes) (names : List Bytes) (found : Option Ty) (w : Ty) : Type 0 where
  pub type : found ≡ Some w
  pub name : has_name f names ≡ true

pub fields_at-type : (names : List Bytes) (fs : Fields) (f : Bytes) (w : Ty) → field_type f (fields_at names fs) ≡ Some w → Included f names (field_type f fs) w
fields_at-type [] fs f w h = let no : ⊥ = cc in absurd no
fields_at-type (g ∷ names) fs f w h = by-type (field_type g fs) refl h (fields_at-type names fs f w)
  where
    later : (field_type f (fields_at names fs) ≡ Some w → Included f names (field_type f fs) w) → field_type f (fields_at names fs) ≡ Some w → Included f (g ∷ names) (field_type f fs) w
    later r k = record { type = (r k).type; name = or_right (bytes_eq f g) (has_name f names) (r k).name }

    by-test : (b : Bool) (v : Ty) → bytes_eq f g ≡ b → field_type g fs ≡ Some v → cond b (Some v) (field_type f (fields_at names fs)) ≡ Some w
        → (field_type f (fields_at names fs) ≡ Some w → Included f names (field_type f fs) w) → Included f (g ∷ names) (field_type f fs) w
    by-test true v e j k r =
        let same : v ≡ w = cc in
        record {
          type = subst (λ (z : Bytes). field_type z fs ≡ Some w) (sym (bytes_same f g e)) (subst (λ (z : Ty). field_type g fs ≡ Some z) same j);
          name = or_left (bytes_eq f g) (has_name f names) e;
        }
    by-test false v e j k r = later r k

    by-type : (o : Option Ty) → field_type g fs ≡ o → field_type f (with_field g o (fields_at names fs)) ≡ Some w
        → (field_type f (fields_at names fs) ≡ Some w → Included f names (field_type f fs) w) → Included f (g ∷ names) (field_type f fs) w
    by-type None j k r = later r k
    by-type (Some v) j k r = by-test (bytes_eq f g) v refl j k r

pub members_at-value : (names : List Bytes) (v : Val) (f : Bytes) → has_name f names ≡ true → unwrap_or (member_named f (members_at names v)) fault ≡ field_of f v
members_at-value [] v f h = let no : ⊥ = cc in absurd no
members_at-value (g ∷ names) v f h = by-test (bytes_eq f g) refl h (members_at-value names v f)
  where
    by-test : (b : Bool) → bytes_eq f g ≡ b → (b || has_name f names) ≡ true → (has_name f names ≡ true → unwrap_or (member_named f (members_at names v)) fault ≡ field_of f v)
        → unwrap_or (cond b (Some (field_of g v)) (member_named f (members_at names v))) fault ≡ field_of f v
    by-test true e k r = ap (λ (z : Bytes). field_of z v) (sym (bytes_same f g e))
    by-test false e k r = r k

-- a type that a field has after others were excluded, it had before
pub record NotExcluded (f : Bytes) (names : List Bytes) (found : Option Ty) (w : Ty) : Type 0 where
  pub type : found ≡ Some w
  pub name : has_name f names ≡ false

other_name : (names : List Bytes) (f g : Bytes) → has_name f names ≡ false → has_name g names ≡ true → (b : Bool) → bytes_eq f g ≡ b → b ≡ false
other_name names f g h k true e = let two : has_name f names ≡ has_name g names = ap (λ (z : Bytes). has_name z names) (bytes_same f g e) in let no : ⊥ = cc in absurd no
other_name names f g h k false e = refl

pub fields_without-type : (names : List Bytes) (fs : Fields) (f : Bytes) (w : Ty) → field_type f (fields_without names fs) ≡ Some w → NotExcluded f names (field_type f fs) w
fields_without-type names no_fields f w h = let no : ⊥ = cc in absurd no
fields_without-type names (field g t fs) f w h =
    let r = by-name (has_name g names) refl h (fields_without-type names fs f w) in
    record { type = r.0; name = r.1 }
  where
    by-test : (b : Bool) → bytes_eq f g ≡ b → has_name g names ≡ false → cond b (Some t) (field_type f (fields_without names fs)) ≡ Some w
        → (field_type f (fields_without names fs) ≡ Some w → NotExcluded f names (field_type f fs) w) → (cond b (Some t) (field_type f fs) ≡ Some w) × (has_name f names ≡ false)
    by-test true e n k r = (k, subst (λ (z : Bytes). has_name z names ≡ false) (sym (bytes_same f g e)) n)
    by-test false e n k r = ((r k).type, (r k).name)

    by-name : (b : Bool) → has_name g names ≡ b → field_type f (cond b (fields_without names fs) (field g t (fields_without names fs))) ≡ Some w
        → (field_type f (fields_without names fs) ≡ Some w → NotExcluded f names (field_type f fs) w) → (cond (bytes_eq f g) (Some t) (field_type f fs) ≡ Some w) × (has_name f names ≡ false)
    by-name true n k r =
        let rest = r k in
        let differ : bytes_eq f g ≡ false = other_name names f g rest.name n (bytes_eq f g) refl in
        (rw differ rest.type, rest.name)
    by-name false n k r = by-test (bytes_eq f g) refl n k r

pub members_without-value : (names : List Bytes) (ms : Members) (f : Bytes) → has_name f names ≡ false → member_named f (members_without names ms) ≡ member_named f ms
members_without-value names no_members f h = refl
members_without-value names (member g x ms) f h = by-name (has_name g names) refl (members_without-value names ms f h)
  where
    by-name : (b : Bool) → has_name g names ≡ b → member_named f (members_without names ms) ≡ member_named f ms
        → member_named f (cond b (members_without names ms) (member g x (members_without names ms))) ≡ cond (bytes_eq f g) (Some x) (member_named f ms)
    by-name true n r =
        let differ : bytes_eq f g ≡ false = other_name names f g h n (bytes_eq f g) refl in
        rw differ r
    by-name false n r = ap (cond (bytes_eq f g) (Some x)) r

-- a field that a select gives is the struct's, in type and value
pub record Chosen (s : FieldSelection) (f : Bytes) (fs : Fields) (ms : Members) (w : Ty) : Type 0 where
  pub type : field_type f fs ≡ Some w
  pub value : field_of f (select3 s (struct_val ms)) ≡ field_of f (struct_val ms)

pub select-chosen : (s : FieldSelection) (f : Bytes) (fs : Fields) (ms : Members) (w : Ty) → field_type f (selected_fields s fs) ≡ Some w → Chosen s f fs ms w
select-chosen (Include names) f fs ms w h =
    let k = fields_at-type names fs f w h in
    record { type = k.type; value = members_at-value names (struct_val ms) f k.name }
select-chosen (Exclude names) f fs ms w h =
    let k = fields_without-type names fs f w h in
    record { type = k.type; value = ap (λ (o : Option Val). unwrap_or o fault) (members_without-value names ms f k.name) }

-- a field of a merge has its merged type and value
pub merged_fields-type : (names : List Bytes) (ts : List Ty) (f : Bytes) (w : Ty) → field_type f (merged_fields_at names ts) ≡ Some w → Included f names (merged_type_at f ts) w
merged_fields-type [] ts f w h = let no : ⊥ = cc in absurd no
merged_fields-type (g ∷ names) ts f w h = by-type (merged_type_at g ts) refl h (merged_fields-type names ts f w)
  where
    later : (field_type f (merged_fields_at names ts) ≡ Some w → Included f names (merged_type_at f ts) w) → field_type f (merged_fields_at names ts) ≡ Some w → Included f (g ∷ names) (merged_type_at f ts) w
    later r k = record { type = (r k).type; name = or_right (bytes_eq f g) (has_name f names) (r k).name }

    by-test : (b : Bool) (v : Ty) → bytes_eq f g ≡ b → merged_type_at g ts ≡ Some v → cond b (Some v) (field_type f (merged_fields_at names ts)) ≡ Some w
        → (field_type f (merged_fields_at names ts) ≡ Some w → Included f names (merged_type_at f ts) w) → Included f (g ∷ names) (merged_type_at f ts) w
    by-test true v e j k r =
        let same : v ≡ w = cc in
        record {
          type = subst (λ (z : Bytes). merged_type_at z ts ≡ Some w) (sym (bytes_same f g e)) (subst (λ (z : Ty). merged_type_at g ts ≡ Some z) same j);
          name = or_left (bytes_eq f g) (has_name f names) e;
        }
    by-test false v e j k r = later r k

    by-type : (o : Option Ty) → merged_type_at g ts ≡ o → field_type f (with_field g o (merged_fields_at names ts)) ≡ Some w
        → (field_type f (merged_fields_at names ts) ≡ Some w → Included f names (merged_type_at f ts) w) → Included f (g ∷ names) (merged_type_at f ts) w
    by-type None j k r = later r k
    by-type (Some v) j k r = by-test (bytes_eq f g) v refl j k r

pub merged_members-value : (names : List Bytes) (ss : List Source) (f : Bytes) → has_name f names ≡ true → unwrap_or (member_named f (merged_members names ss)) fault ≡ merged_value f ss
merged_members-value [] ss f h = let no : ⊥ = cc in absurd no
merged_members-value (g ∷ names) ss f h = by-test (bytes_eq f g) refl h (merged_members-value names ss f)
  where
    by-test : (b : Bool) → bytes_eq f g ≡ b → (b || has_name f names) ≡ true → (has_name f names ≡ true → unwrap_or (member_named f (merged_members names ss)) fault ≡ merged_value f ss)
        → unwrap_or (cond b (Some (merged_value g ss)) (member_named f (merged_members names ss))) fault ≡ merged_value f ss
    by-test true e k r = ap (λ (z : Bytes). merged_value z ss) (sym (bytes_same f g e))
    by-test false e k r = r k
