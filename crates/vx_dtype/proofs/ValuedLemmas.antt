-- The value that a scalar stands for is a value of its type.
use Rattle.std.proofs.Common.{◌≡◌, Bool, true, false, ◌&&◌, cond, refl, ap, ◌∙◌}
use Rattle.std.specs.Str.{bytes_eq}
use Rattle.std.proofs.lemmas.Slice.Eq.{bytes_eq-Decides}
use Rattle.vx_dtype.specs.Types.{Bytes, Ty, bool_ty, int_ty, text_ty, list_ty, struct_ty, Fields, no_fields, field, PType, U8, U16, U32, U64, I8, I16, I32, I64, Nullability}
use Rattle.vx_dtype.specs.TypeRules.{same_ptype}
use Rattle.vx_dtype.specs.Values.{Raw, raw_null, raw_bool, raw_int, raw_text, raw_list, raw_struct, Raws, no_raws, raw, Val, struct_val, fault, as_many, valued, all_valued, members_valued}
use Rattle.vx_dtype.specs.Fits.{fits, all_fit, fields_fit, val_fits, vals_fit, members_fit}

-- each integer type is the same as itself
pub same_ptype_refl : (p : PType) → same_ptype p p ≡ true
same_ptype_refl U8 = refl
same_ptype_refl U16 = refl
same_ptype_refl U32 = refl
same_ptype_refl U64 = refl
same_ptype_refl I8 = refl
same_ptype_refl I16 = refl
same_ptype_refl I32 = refl
same_ptype_refl I64 = refl

-- each name is the same as itself
pub bytes_eq_refl : (f : Bytes) → bytes_eq f f ≡ true
bytes_eq_refl f = (bytes_eq-Decides f f).1 refl

and_left : (a b : Bool) → (a && b) ≡ true → a ≡ true
and_left true b e = refl
and_left false b e = absurd cc

and_right : (a b : Bool) → (a && b) ≡ true → b ≡ true
and_right true b e = e
and_right false b e = absurd cc

and_both : (a b : Bool) → a ≡ true → b ≡ true → (a && b) ≡ true
and_both a b p q = cc

-- raw values of fields are as many as the fields
pub as_many-fitting : (xs : Raws) (fs : Fields) → fields_fit xs fs ≡ true → as_many xs fs ≡ true
unfolding fields_fit
as_many-fitting no_raws no_fields h = refl
as_many-fitting no_raws (field f t fs) h = absurd cc
as_many-fitting (raw x xs) no_fields h = absurd cc
as_many-fitting (raw x xs) (field f t fs) h = as_many-fitting xs fs (and_right (fits x t) (fields_fit xs fs) h)

-- a raw struct of the fields of a type stands for the struct of the members
pub valued-struct : (xs : Raws) (fs : Fields) (n : Nullability) → fields_fit xs fs ≡ true → valued (raw_struct xs) (struct_ty fs n) ≡ struct_val (members_valued xs fs)
unfolding valued
valued-struct xs fs n h = ap (λ b. cond b (struct_val (members_valued xs fs)) fault) (as_many-fitting xs fs h)

struct-fits : (xs : Raws) (fs : Fields) (n : Nullability) (v : Val) → v ≡ struct_val (members_valued xs fs) → members_fit (members_valued xs fs) fs ≡ true → val_fits v (struct_ty fs n) ≡ true
unfolding val_fits
struct-fits xs fs n v e h = ap (λ (w : Val). val_fits w (struct_ty fs n)) e ∙ h

mutual
  unfolding fits valued val_fits

  -- a raw value of a type stands for a value of the type
  pub val_fits_valued : (r : Raw) (t : Ty) → fits r t ≡ true → val_fits (valued r t) t ≡ true
  val_fits_valued raw_null t h = h
  val_fits_valued (raw_bool b) (bool_ty n) h = refl
  val_fits_valued (raw_int i) (int_ty p n) h = and_both (same_ptype p p) _ (same_ptype_refl p) h
  val_fits_valued (raw_text s) (text_ty n) h = refl
  val_fits_valued (raw_list xs) (list_ty e n) h = vals_fit_all_valued xs e h
  val_fits_valued (raw_struct xs) (struct_ty fs n) h = struct-fits xs fs n _ (valued-struct xs fs n h) (members_fit_members_valued xs fs h)
  val_fits_valued _ _ h = absurd cc

  -- the same of each value of a list
  pub vals_fit_all_valued : (xs : Raws) (t : Ty) → all_fit xs t ≡ true → vals_fit (all_valued xs t) t ≡ true
  vals_fit_all_valued no_raws t h = refl
  vals_fit_all_valued (raw x xs) t h =
      and_both _ _ (val_fits_valued x t (and_left (fits x t) (all_fit xs t) h)) (vals_fit_all_valued xs t (and_right (fits x t) (all_fit xs t) h))

  -- the same of the members of a struct
  pub members_fit_members_valued : (xs : Raws) (fs : Fields) → fields_fit xs fs ≡ true → members_fit (members_valued xs fs) fs ≡ true
  members_fit_members_valued no_raws no_fields h = refl
  members_fit_members_valued (raw x xs) (field f t fs) h =
      and_both (bytes_eq f f) _ (bytes_eq_refl f)
      (and_both _ _ (val_fits_valued x t (and_left (fits x t) (fields_fit xs fs) h)) (members_fit_members_valued xs fs (and_right (fits x t) (fields_fit xs fs) h)))
  members_fit_members_valued _ _ h = absurd cc
