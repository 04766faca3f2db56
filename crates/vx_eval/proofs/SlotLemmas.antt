-- Values of slots at the slots' types, and comparisons with them.
use Rattle.std.proofs.Common.{◌≡◌, refl, ap, sym, ◌∙◌, Bool, true, ◌&&◌, List, [], ◌∷◌, map, length, Some}
use Rattle.std.proofs.Math.ListN.{replicate}
use Rattle.std.proofs.lemmas.Bool.{and_parts}
use Rattle.vx_dtype.specs.declared.PType.{PType}
use Rattle.vx_dtype.specs.declared.PType.TheVariants.{U8, U16, U32, U64, I8, I16, I32, I64}
use Rattle.vx_dtype.specs.Types.{Ty, bool_ty, int_ty, text_ty, list_ty, struct_ty}
use Rattle.vx_dtype.specs.TypeRules.{same_ptype, alike, is_plain, no_name_twice}
use Rattle.vx_dtype.specs.Values.{Raw, raw_null, raw_bool, raw_int, raw_text, raw_list, raw_struct, Val, null_val, bool_val, int_val, text_val, list_val, struct_val, fault, Typed, valued, value_of}
use Rattle.vx_dtype.specs.Fits.{fits, val_fits}
use Rattle.vx_column.specs.Columns.{rows_fit, zip_rows}
use Rattle.vx_semantics.specs.Typing.{equal_plain}
use Rattle.vx_semantics.specs.Slots.{null_allowed, held_fits}
use Rattle.vx_semantics.specs.Meaning.{default_answer}

-- equal integer types are one
same_ptype_equal : (p q : PType) → same_ptype p q ≡ true → p ≡ q
same_ptype_equal U8 U8 e = refl
same_ptype_equal U16 U16 e = refl
same_ptype_equal U32 U32 e = refl
same_ptype_equal U64 U64 e = refl
same_ptype_equal I8 I8 e = refl
same_ptype_equal I16 I16 e = refl
same_ptype_equal I32 I32 e = refl
same_ptype_equal I64 I64 e = refl
same_ptype_equal _ _ e = cc

-- a type that a plain one equals but for nullability is plain
alike_plain : (s t : Ty) → is_plain t ≡ true → alike s t ≡ true → is_plain s ≡ true
unfolding alike
alike_plain (bool_ty n) t p a = refl
alike_plain (int_ty q n) t p a = refl
alike_plain (text_ty n) t p a = refl
alike_plain (list_ty e n) (bool_ty m) p a = a
alike_plain (list_ty e n) (int_ty r m) p a = a
alike_plain (list_ty e n) (text_ty m) p a = a
alike_plain (list_ty e n) (list_ty d m) p a = p
alike_plain (list_ty e n) (struct_ty gs m) p a = p
alike_plain (struct_ty fs n) (bool_ty m) p a = a
alike_plain (struct_ty fs n) (int_ty r m) p a = a
alike_plain (struct_ty fs n) (text_ty m) p a = a
alike_plain (struct_ty fs n) (list_ty d m) p a = p
alike_plain (struct_ty fs n) (struct_ty gs m) p a = p

plain_fits : (x : Raw) (s t : Ty) → is_plain s ≡ true → alike s t ≡ true → fits x s ≡ true → null_allowed x t ≡ true → fits x t ≡ true
unfolding fits alike
plain_fits raw_null s t p a f n = n
plain_fits (raw_bool b) (bool_ty k) (bool_ty m) p a f n = f
plain_fits (raw_int i) (bool_ty k) (bool_ty m) p a f n = f
plain_fits (raw_text b) (bool_ty k) (bool_ty m) p a f n = f
plain_fits (raw_list xs) (bool_ty k) (bool_ty m) p a f n = f
plain_fits (raw_struct xs) (bool_ty k) (bool_ty m) p a f n = f
plain_fits (raw_bool b) (int_ty q k) (int_ty r m) p a f n = ap (λ o. fits (raw_bool b) (int_ty o m)) (sym (same_ptype_equal q r a)) ∙ f
plain_fits (raw_int i) (int_ty q k) (int_ty r m) p a f n = ap (λ o. fits (raw_int i) (int_ty o m)) (sym (same_ptype_equal q r a)) ∙ f
plain_fits (raw_text b) (int_ty q k) (int_ty r m) p a f n = ap (λ o. fits (raw_text b) (int_ty o m)) (sym (same_ptype_equal q r a)) ∙ f
plain_fits (raw_list xs) (int_ty q k) (int_ty r m) p a f n = ap (λ o. fits (raw_list xs) (int_ty o m)) (sym (same_ptype_equal q r a)) ∙ f
plain_fits (raw_struct xs) (int_ty q k) (int_ty r m) p a f n = ap (λ o. fits (raw_struct xs) (int_ty o m)) (sym (same_ptype_equal q r a)) ∙ f
plain_fits (raw_bool b) (text_ty k) (text_ty m) p a f n = f
plain_fits (raw_int i) (text_ty k) (text_ty m) p a f n = f
plain_fits (raw_text b) (text_ty k) (text_ty m) p a f n = f
plain_fits (raw_list xs) (text_ty k) (text_ty m) p a f n = f
plain_fits (raw_struct xs) (text_ty k) (text_ty m) p a f n = f
plain_fits _ _ _ p a f n = absurd cc

plain_valued : (x : Raw) (s t : Ty) → is_plain s ≡ true → alike s t ≡ true → valued x t ≡ valued x s
unfolding valued alike
plain_valued raw_null s t p a = refl
plain_valued (raw_bool b) (bool_ty k) (bool_ty m) p a = refl
plain_valued (raw_int i) (bool_ty k) (bool_ty m) p a = refl
plain_valued (raw_text b) (bool_ty k) (bool_ty m) p a = refl
plain_valued (raw_list xs) (bool_ty k) (bool_ty m) p a = refl
plain_valued (raw_struct xs) (bool_ty k) (bool_ty m) p a = refl
plain_valued (raw_bool b) (int_ty q k) (int_ty r m) p a = ap (λ o. valued (raw_bool b) (int_ty o m)) (sym (same_ptype_equal q r a))
plain_valued (raw_int i) (int_ty q k) (int_ty r m) p a = ap (λ o. valued (raw_int i) (int_ty o m)) (sym (same_ptype_equal q r a))
plain_valued (raw_text b) (int_ty q k) (int_ty r m) p a = ap (λ o. valued (raw_text b) (int_ty o m)) (sym (same_ptype_equal q r a))
plain_valued (raw_list xs) (int_ty q k) (int_ty r m) p a = ap (λ o. valued (raw_list xs) (int_ty o m)) (sym (same_ptype_equal q r a))
plain_valued (raw_struct xs) (int_ty q k) (int_ty r m) p a = ap (λ o. valued (raw_struct xs) (int_ty o m)) (sym (same_ptype_equal q r a))
plain_valued (raw_bool b) (text_ty k) (text_ty m) p a = refl
plain_valued (raw_int i) (text_ty k) (text_ty m) p a = refl
plain_valued (raw_text b) (text_ty k) (text_ty m) p a = refl
plain_valued (raw_list xs) (text_ty k) (text_ty m) p a = refl
plain_valued (raw_struct xs) (text_ty k) (text_ty m) p a = refl
plain_valued _ _ _ p a = absurd cc

-- a value that fits a type fits a plain one that is equal but for nullability, where null is allowed there
fits_alike : (x : Raw) (s t : Ty) → is_plain t ≡ true → alike s t ≡ true → fits x s ≡ true → null_allowed x t ≡ true → fits x t ≡ true
fits_alike x s t p a f n = plain_fits x s t (alike_plain s t p a) a f n

-- and stands for the same value
valued_alike : (x : Raw) (s t : Ty) → is_plain t ≡ true → alike s t ≡ true → valued x t ≡ valued x s
valued_alike x s t p a = plain_valued x s t (alike_plain s t p a) a

-- a type that equals a plain one but for nullability is plain, and has no names
pub plain_alike : (s t : Ty) → is_plain s ≡ true → alike s t ≡ true → is_plain t ≡ true
unfolding alike
plain_alike (bool_ty n) (bool_ty m) p a = refl
plain_alike (int_ty q n) (int_ty r m) p a = refl
plain_alike (text_ty n) (text_ty m) p a = refl
plain_alike _ _ p a = absurd cc

pub plain_names : (t : Ty) → is_plain t ≡ true → no_name_twice t ≡ true
unfolding no_name_twice
plain_names (bool_ty n) p = refl
plain_names (int_ty q n) p = refl
plain_names (text_ty n) p = refl
plain_names (list_ty e n) p = absurd cc
plain_names (struct_ty fs n) p = absurd cc

-- a rule beside a column of one value is a rule of the other column's values
pub zip_repeated : (rule : Val → Val → Val) (vs : List Val) (w : Val) → zip_rows rule vs (replicate (length vs) w) ≡ map (λ v. rule v w) vs
zip_repeated rule [] w = refl
zip_repeated rule (v ∷ vs) w = ap (λ us. rule v w ∷ us) (zip_repeated rule vs w)

-- at values of a type the default is the answer
default_at : (b : Bool) (t : Ty) (v : Val) → val_fits v t ≡ true → default_answer b v ≡ bool_val b
unfolding val_fits
default_at b t null_val h = refl
default_at b t (bool_val c) h = refl
default_at b t (int_val p i) h = refl
default_at b t (text_val s) h = refl
default_at b t (list_val xs) h = refl
default_at b t (struct_val ms) h = refl
default_at b t fault h = absurd cc

pub default_rows : (b : Bool) (t : Ty) (vs : List Val) → rows_fit t vs ≡ true → map (default_answer b) vs ≡ replicate (length vs) (bool_val b)
default_rows b t [] h = refl
default_rows b t (v ∷ vs) h =
    let parts = and_parts (val_fits v t) (rows_fit t vs) h in
    λ i. default_at b t v parts.0 i ∷ default_rows b t vs parts.1 i

-- the type of a slot that is compared is plain
pub slot_plain : (a s : Ty) → equal_plain a s ≡ true → is_plain s ≡ true
slot_plain a s h = let parts = and_parts (alike a s) (is_plain a) h in plain_alike a s parts.1 parts.0

-- what a slot of a plain type holds is a value of the type, and stands for the same there
pub held_value_fits : (s : Typed) (t : Ty) → is_plain t ≡ true → held_fits (Some s) t ≡ true → fits s.value t ≡ true
held_value_fits s t p h =
    let parts = and_parts (alike s.ty t) (fits s.value s.ty && null_allowed s.value t) h in
    let more = and_parts (fits s.value s.ty) (null_allowed s.value t) parts.1 in
    fits_alike s.value s.ty t p parts.0 more.0 more.1

pub held_value_same : (s : Typed) (t : Ty) → is_plain t ≡ true → held_fits (Some s) t ≡ true → valued s.value t ≡ value_of s
held_value_same s t p h =
    let parts = and_parts (alike s.ty t) (fits s.value s.ty && null_allowed s.value t) h in
    valued_alike s.value s.ty t p parts.0
