-- What a raw value of a type stands for is a value of the type.
use Rattle.std.proofs.Common.{◌≡◌, refl, ap, sym, ◌∙◌, Bool, true, false, ◌&&◌, List, [], ◌∷◌}
use Rattle.std.specs.Str.{bytes_eq}
use Rattle.std.proofs.lemmas.Slice.Eq.{bytes_eq-Decides}
use Rattle.vx_dtype.specs.Types.{Bytes, Ty, bool_ty, int_ty, text_ty, list_ty, struct_ty}
use Rattle.vx_dtype.specs.declared.PType.{PType}
use Rattle.vx_dtype.specs.declared.PType.TheVariants.{U8, U16, U32, U64, I8, I16, I32, I64}
use Rattle.vx_dtype.specs.TypeRules.{same_ptype, is_nullable, is_text_ty, nullability_of, union, with_nullability, no_name_twice}
use Rattle.vx_dtype.specs.declared.Nullability.{Nullability}
use Rattle.vx_dtype.specs.declared.Nullability.TheVariants.{NonNullable, Nullable}
use Rattle.vx_dtype.specs.Values.{Raw, raw_null, raw_bool, raw_int, raw_text, raw_list, raw_struct, valued, Val, null_val, bool_val, int_val, text_val, list_val, struct_val, fault}
use Rattle.vx_dtype.specs.Logic.{is_null3}
use Rattle.vx_dtype.proofs.ValuedLemmas.{val_fits_valued, valued-struct}
use Rattle.vx_column.specs.RawParts.{is_raw_null}
use Rattle.vx_dtype.specs.Fits.{fits, val_fits}
use Rattle.vx_dtype.specs.RawViews.{raw_view, raw_step}
use Rattle.vx_dtype.specs.declared.values.ScalarValue.{ScalarValue}
use Rattle.vx_dtype.specs.declared.values.ScalarValue.TheVariants as scalars
use Rattle.vx_dtype.specs.declared.values.ScalarValue.TheVariants.{rolls-Bool}
use Rattle.vx_dtype.specs.declared.values.ScalarValue.TheOpen.{Bool as BoolLayer}
use Rattle.vx_dtype.specs.declared.values.ScalarValue.TheFolds.{fold-roll-ScalarValue}
use Rattle.vx_column.specs.Columns.{rows_fit, values_fit, seen, seen_rows}

-- an integer type is itself
pub same_ptype_self : (p : PType) → same_ptype p p ≡ true
same_ptype_self U8 = refl
same_ptype_self U16 = refl
same_ptype_self U32 = refl
same_ptype_self U64 = refl
same_ptype_self I8 = refl
same_ptype_self I16 = refl
same_ptype_self I32 = refl
same_ptype_self I64 = refl

-- a name equals itself
pub bytes_eq_self : (f : Bytes) → bytes_eq f f ≡ true
bytes_eq_self f = (bytes_eq-Decides f f).1 refl

-- both of two tests hold where their conjunction does, and the other way round
pub both_of : (a b : Bool) → a && b ≡ true → (a ≡ true) × (b ≡ true)
both_of true true e = (refl, refl)
both_of true false e = (refl, e)
both_of false b e = (e, cc)

pub of_both : (a b : Bool) → a ≡ true → b ≡ true → a && b ≡ true
of_both true b p q = q
of_both false b p q = p

-- what a raw value of a type stands for is null where the raw value is
pub is_null3_valued : (x : Raw) (t : Ty) → fits x t ≡ true → is_null3 (valued x t) ≡ bool_val (is_raw_null x)
unfolding fits valued
is_null3_valued raw_null t e = refl
is_null3_valued (raw_bool b) (bool_ty n) e = refl
is_null3_valued (raw_int i) (int_ty p n) e = refl
is_null3_valued (raw_text s) (text_ty n) e = refl
is_null3_valued (raw_list xs) (list_ty t n) e = refl
is_null3_valued (raw_struct xs) (struct_ty fs n) e = ap is_null3 (valued-struct xs fs n e)
is_null3_valued _ _ e = cc

-- a boolean of the code stands for itself
pub bool-seen : (b : Bool) → seen (bool_ty NonNullable) (scalars.Bool b) ≡ bool_val b
unfolding valued
bool-seen b = ap (λ x. valued x (bool_ty NonNullable)) (ap raw_view (sym (rolls-Bool b)) ∙ fold-roll-ScalarValue Raw raw_step (BoolLayer b))

-- so where each value of the code fits, each row does
pub rows_fit_seen : (t : Ty) (xs : List ScalarValue) → values_fit t xs ≡ true → rows_fit t (seen_rows t xs) ≡ true
rows_fit_seen t [] e = refl
rows_fit_seen t (x ∷ xs) e =
    let h = both_of _ _ e in
    of_both _ _ (val_fits_valued (raw_view x) t h.0) (rows_fit_seen t xs h.1)

-- another nullability of the type changes neither what a value stands for nor the names
pub valued_with_nullability : (x : Raw) (t : Ty) (n : Nullability) → valued x (with_nullability t n) ≡ valued x t
unfolding valued
valued_with_nullability raw_null t n = refl
valued_with_nullability (raw_bool b) (bool_ty m) n = refl
valued_with_nullability (raw_bool b) (int_ty p m) n = refl
valued_with_nullability (raw_bool b) (text_ty m) n = refl
valued_with_nullability (raw_bool b) (list_ty t m) n = refl
valued_with_nullability (raw_bool b) (struct_ty fs m) n = refl
valued_with_nullability (raw_int b) (bool_ty m) n = refl
valued_with_nullability (raw_int b) (int_ty p m) n = refl
valued_with_nullability (raw_int b) (text_ty m) n = refl
valued_with_nullability (raw_int b) (list_ty t m) n = refl
valued_with_nullability (raw_int b) (struct_ty fs m) n = refl
valued_with_nullability (raw_text b) (bool_ty m) n = refl
valued_with_nullability (raw_text b) (int_ty p m) n = refl
valued_with_nullability (raw_text b) (text_ty m) n = refl
valued_with_nullability (raw_text b) (list_ty t m) n = refl
valued_with_nullability (raw_text b) (struct_ty fs m) n = refl
valued_with_nullability (raw_list b) (bool_ty m) n = refl
valued_with_nullability (raw_list b) (int_ty p m) n = refl
valued_with_nullability (raw_list b) (text_ty m) n = refl
valued_with_nullability (raw_list b) (list_ty t m) n = refl
valued_with_nullability (raw_list b) (struct_ty fs m) n = refl
valued_with_nullability (raw_struct b) (bool_ty m) n = refl
valued_with_nullability (raw_struct b) (int_ty p m) n = refl
valued_with_nullability (raw_struct b) (text_ty m) n = refl
valued_with_nullability (raw_struct b) (list_ty t m) n = refl
valued_with_nullability (raw_struct b) (struct_ty fs m) n = refl

pub names_with_nullability : (t : Ty) (n : Nullability) → no_name_twice (with_nullability t n) ≡ no_name_twice t
unfolding no_name_twice
names_with_nullability (bool_ty m) n = refl
names_with_nullability (int_ty p m) n = refl
names_with_nullability (text_ty m) n = refl
names_with_nullability (list_ty t m) n = refl
names_with_nullability (struct_ty fs m) n = refl

-- whether null is a value of the type with a nullability
pub nullability_with : (t : Ty) (n : Nullability) → nullability_of (with_nullability t n) ≡ n
nullability_with (bool_ty m) n = refl
nullability_with (int_ty p m) n = refl
nullability_with (text_ty m) n = refl
nullability_with (list_ty t m) n = refl
nullability_with (struct_ty fs m) n = refl

-- a value of a type is one of the type made nullable
pub fits_nullable : (x : Raw) (t : Ty) → fits x t ≡ true → fits x (with_nullability t Nullable) ≡ true
unfolding fits
fits_nullable raw_null t e = ap is_nullable (nullability_with t Nullable)
fits_nullable (raw_bool b) (bool_ty m) e = refl
fits_nullable (raw_int i) (int_ty p m) e = e
fits_nullable (raw_text s) (text_ty m) e = refl
fits_nullable (raw_list xs) (list_ty t m) e = e
fits_nullable (raw_struct xs) (struct_ty fs m) e = e
fits_nullable _ _ e = cc

-- null is a value of a type made nullable
pub nullable_made : (t : Ty) → is_nullable (nullability_of (with_nullability t Nullable)) ≡ true
nullable_made t = ap is_nullable (nullability_with t Nullable)

-- a union has the null where one of the two has it
pub nullable_left : (n m : Nullability) → is_nullable n ≡ true → is_nullable (union n m) ≡ true
nullable_left NonNullable m e = cc
nullable_left Nullable m e = refl

pub nullable_right : (n m : Nullability) → is_nullable m ≡ true → is_nullable (union n m) ≡ true
nullable_right NonNullable m e = e
nullable_right Nullable m e = refl

-- a text type is the one of its nullability
pub text_is : (t : Ty) → is_text_ty t ≡ true → t ≡ text_ty (nullability_of t)
text_is (text_ty n) e = refl
text_is _ e = absurd cc

-- a value of a type that isn't nullable is never null
pub never_null : (t : Ty) (v : Val) → is_nullable (nullability_of t) ≡ false → val_fits v t ≡ true → is_null3 v ≡ bool_val false
unfolding val_fits
never_null t null_val e h = absurd cc
never_null t (bool_val b) e h = refl
never_null t (int_val p i) e h = refl
never_null t (text_val s) e h = refl
never_null t (list_val xs) e h = refl
never_null t (struct_val ms) e h = refl
never_null t fault e h = absurd cc
