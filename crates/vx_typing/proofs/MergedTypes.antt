-- The types of merged fields: each that of the field at its place, nullable also where its struct is.
use Rattle.std.proofs.Common.{◌≡◌, refl, ap, sym, ◌∙◌, ℕ, ◌<◌, List, [], ◌∷◌, map, length, Some, None, option_map, position}
use Rattle.std.specs.Option.{option_and_then}
use Rattle.std.specs.List.{slice_get}
use Rattle.std.specs.Str.{bytes_eq}
use Rattle.std.proofs.Math.ListN.{get_or}
use Rattle.std.proofs.lemmas.List.{length-map}
use Rattle.std.proofs.lemmas.Option.{none-some, same_Some, slice_get-get_or}
use Rattle.vx_dtype.specs.Types.{Bytes, Ty, bool_ty, int_ty, text_ty, list_ty, struct_ty, Fields, no_fields, field}
use Rattle.vx_dtype.specs.TypeRules.{field_names, field_type, fields_of, nullability_of, widened}
use Rattle.vx_dtype.specs.StructTypes.{field_types, struct_fields, with_field}
use Rattle.vx_dtype.specs.Zipped.{zipped}
use Rattle.vx_dtype.proofs.FieldsFrom.{length-field_types}
use Rattle.vx_dtype.proofs.ZippedLemmas.{field_type_at}
use Rattle.vx_semantics.specs.Typing.{names_in, type_in, merged_type_at, merged_fields_at}
use Rattle.vx_typing.specs.declared.field_places.MergedField.{MergedField}
use Rattle.vx_typing.specs.MergedFields.{name_of}
use Rattle.vx_typing.proofs.FieldPlaces.{IsGiver}

-- fields are made of their names and their types
fields_back : (fs : Fields) → zipped (field_names fs) (map (λ (t : Ty). t) (field_types fs)) ≡ fs
fields_back no_fields = refl
fields_back (field f t fs) = ap (field f t) (fields_back fs)

-- the type of a name is the one at the name's first place
first_type : (f : Bytes) (fs : Fields) (i : ℕ) (u : Ty) → position (bytes_eq f) (field_names fs) ≡ Some i → (i < length (field_types fs)) × (field_type f fs ≡ Some (get_or (field_types fs) i u))
first_type f fs i u h =
    let found = field_type_at (λ (t : Ty). t) f (field_names fs) (field_types fs) i u (sym (length-field_types fs)) h in
    (found.0, ap (field_type f) (sym (fields_back fs)) ∙ found.1)

-- what has a name is a struct
named : (f : Bytes) (t : Ty) (i : ℕ) → position (bytes_eq f) (names_in t) ≡ Some i → None ≡ struct_fields t → ⊥
named f (bool_ty n) i h none = none-some i h
named f (int_ty p n) i h none = none-some i h
named f (text_ty n) i h none = none-some i h
named f (list_ty e n) i h none = none-some i h
named f (struct_ty fs n) i h none = none-some fs none

fields_are : (t : Ty) (fs : Fields) → Some fs ≡ struct_fields t → fields_of t ≡ fs
fields_are (bool_ty n) fs e = absurd (none-some fs (sym e))
fields_are (int_ty p n) fs e = absurd (none-some fs (sym e))
fields_are (text_ty n) fs e = absurd (none-some fs (sym e))
fields_are (list_ty d n) fs e = absurd (none-some fs (sym e))
fields_are (struct_ty gs n) fs e = sym (same_Some fs gs e)

module _ (ts : List Ty) (m : MergedField) (t : Ty) (giver : IsGiver names_in ts m t) where
  -- the type at the place of a merged field is a struct
  pub has_fields : None ≡ struct_fields t → ⊥
  has_fields none = named m.name t m.place.index giver.first none

  module _ (fs : Fields) (is : Some fs ≡ struct_fields t) where
    first : position (bytes_eq m.name) (field_names fs) ≡ Some m.place.index
    first = ap (λ gs. position (bytes_eq m.name) (field_names gs)) (sym (fields_are t fs is)) ∙ giver.first

    -- with a field there
    pub has_field : None ≡ slice_get (field_types fs) m.place.index → ⊥
    has_field none = none-some (get_or (field_types fs) m.place.index t) (none ∙ slice_get-get_or (field_types fs) m.place.index t (first_type m.name fs m.place.index t first).0)

    -- whose type is the name's
    pub type_merged : (u : Ty) → Some u ≡ slice_get (field_types fs) m.place.index → merged_type_at m.name ts ≡ Some (widened u (nullability_of t))
    type_merged u e =
        let found = first_type m.name fs m.place.index u first in
        ap (option_and_then (type_in m.name)) giver.last
        ∙ ap (option_map (λ (v : Ty). widened v (nullability_of t)))
        (ap (field_type m.name) (fields_are t fs is) ∙ found.1 ∙ sym (slice_get-get_or (field_types fs) m.place.index u found.0) ∙ sym e)

-- the names of merged fields beside their types are the fields of the merged struct
pub types_beside : (ts : List Ty) (ms : List MergedField) (us : List Ty) → map (λ m. merged_type_at m.name ts) ms ≡ map Some us → zipped (map name_of ms) us ≡ merged_fields_at (map name_of ms) ts
types_beside ts [] us h = refl
types_beside ts (m ∷ ms) [] h = absurd cc
types_beside ts (m ∷ ms) (u ∷ us) h =
    let here : merged_type_at m.name ts ≡ Some u = cc in
    let rest : map (λ (x : MergedField). merged_type_at x.name ts) ms ≡ map Some us = cc in
    ap (field m.name u) (types_beside ts ms us rest) ∙ ap (λ o. with_field m.name o (merged_fields_at (map name_of ms) ts)) (sym here)

pub as_many : {A : Type 0} (see : A → Ty) (ts : List Ty) (ms : List MergedField) (xs : List A) → map (λ m. merged_type_at m.name ts) ms ≡ map Some (map see xs) → length (map name_of ms) ≡ length xs
as_many see ts ms xs h =
    length-map ms name_of ∙ sym (length-map ms (λ (m : MergedField). merged_type_at m.name ts)) ∙ ap length h ∙ length-map (map see xs) Some ∙ length-map xs see
