-- The fields of a struct from a place on, as a loop over them meets them.
use Rattle.std.proofs.Common.{◌≡◌, ◌≢◌, ℕ, zero, suc, ◌≤◌, ◌<◌, List, [], length, map, Some, None, option_map, refl, sym, ap, ◌∙◌, arith}
use Rattle.std.specs.List.{slice_get}
use Rattle.std.proofs.Math.ListN.{get_or}
use Rattle.std.proofs.lemmas.Option.{none-some, same_Some, slice_get-get_or, slice_get-map}
use Rattle.vx_dtype.specs.Types.{Bytes, Ty, Fields, no_fields, field}
use Rattle.vx_dtype.specs.TypeRules.{field_names, depth_of, depth_below}
use Rattle.vx_dtype.specs.StructTypes.{field_types}

-- the fields from a place on
abbrev pub fields_from : ℕ → Fields → Fields
fields_from zero fs = fs
fields_from (suc i) no_fields = no_fields
fields_from (suc i) (field f t fs) = fields_from i fs

-- the field at a place is before those behind it
pub fields_from-here : (i : ℕ) (fs : Fields) (f : Bytes) (t : Ty) → slice_get (field_names fs) i ≡ Some f → slice_get (field_types fs) i ≡ Some t → fields_from i fs ≡ field f t (fields_from (suc i) fs)
fields_from-here zero no_fields f t a b = absurd cc
fields_from-here (suc i) no_fields f t a b = absurd cc
fields_from-here zero (field g u fs) f t a b = λ j. field (same_Some g f a j) (same_Some u t b j) fs
fields_from-here (suc i) (field g u fs) f t a b = fields_from-here i fs f t a b

-- past the last place there is none
pub fields_from-past : (i : ℕ) (fs : Fields) → length (field_names fs) ≤ i → fields_from i fs ≡ no_fields
fields_from-past zero no_fields le = refl
fields_from-past zero (field f t fs) le = absurd (omega arith)
fields_from-past (suc i) no_fields le = refl
fields_from-past (suc i) (field f t fs) le = fields_from-past i fs (omega arith)

-- each place has a name and a type
pub has_name_at : (fs : Fields) (i : ℕ) → i < length (field_names fs) → None ≢ slice_get (field_names fs) i
has_name_at fs i lt e = none-some _ (e ∙ slice_get-get_or (field_names fs) i [] lt)

pub has_type_at : (fs : Fields) (i : ℕ) → i < length (field_names fs) → None ≢ slice_get (field_types fs) i
has_type_at no_fields i lt e = absurd (omega arith)
has_type_at (field f t fs) zero lt e = none-some t e
has_type_at (field f t fs) (suc i) lt e = has_type_at fs i (omega arith) e

-- there are as many types as names
pub length-field_types : (fs : Fields) → length (field_types fs) ≡ length (field_names fs)
length-field_types no_fields = refl
length-field_types (field f t fs) = omega (arith, length-field_types fs)

-- what is seen as the types of the fields has the type of each place there
pub slice_get-field_types : {A : Type 0} (see : A → Ty) (fs : Fields) (xs : List A) (i : ℕ) (x : A) → map see xs ≡ field_types fs → i < length xs → x ≡ get_or xs i x → slice_get (field_types fs) i ≡ Some (see x)
slice_get-field_types see fs xs i x e h is =
    ap (λ ts. slice_get ts i) (sym e) ∙ slice_get-map see xs i ∙ ap (option_map see) (slice_get-get_or xs i x h) ∙ ap (λ y. Some (see y)) (sym is)

-- the type at a place is no deeper than the deepest
pub depth-at : (i : ℕ) (fs : Fields) (t : Ty) → slice_get (field_types fs) i ≡ Some t → depth_of t ≤ depth_below fs
unfolding depth_of
depth-at zero no_fields t e = absurd cc
depth-at (suc i) no_fields t e = absurd cc
depth-at zero (field f u fs) t e = omega (arith, ap depth_of (same_Some u t e))
depth-at (suc i) (field f u fs) t e = omega (arith, depth-at i fs t e)
