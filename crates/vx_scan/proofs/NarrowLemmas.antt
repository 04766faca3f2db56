-- Raw values of a type that is another but perhaps less nullable are values of the other, and stand for the same there.
use Rattle.std.proofs.Common.{◌≡◌, refl, ap, ◌∙◌, sym, ℤ, Bool, true, cond, ◌&&◌}
use Rattle.std.specs.Str.{bytes_eq}
use Rattle.std.proofs.lemmas.Bool.{and_parts, and_from}
use Rattle.std.proofs.lemmas.Slice.Eq.{bytes_eq-Decides}
use Rattle.vx_dtype.specs.declared.Nullability.{Nullability}
use Rattle.vx_dtype.specs.declared.Nullability.TheVariants.{NonNullable, Nullable}
use Rattle.vx_dtype.specs.EqualLaws.{ptype_decides}
use Rattle.vx_dtype.specs.Fits.{in_range, int_fits, fits, all_fit, fields_fit}
use Rattle.vx_dtype.specs.TypeRules.{is_nullable, nullability_of, same_ptype, is_bool_ty, is_text_ty}
use Rattle.vx_dtype.specs.Types.{Bytes, Ty, bool_ty, int_ty, text_ty, list_ty, struct_ty, Fields, no_fields, field}
use Rattle.vx_dtype.specs.Values.{Raw, raw_null, raw_bool, raw_int, raw_text, raw_list, raw_struct, Raws, no_raws, raw, int_val, list_val, struct_val, fault}
use Rattle.vx_dtype.specs.Values.{val, member, bool_at, int_at, text_at, as_many, valued, all_valued, members_valued}
use Rattle.vx_laws_simplifying.specs.Narrowing.{no_more_nullable, narrows, narrow_fields}

nullable_more : (n m : Nullability) → no_more_nullable n m ≡ true → is_nullable n ≡ true → is_nullable m ≡ true
nullable_more NonNullable m h k = absurd cc
nullable_more Nullable m h k = h

-- what two types have in common where one narrows the other
record SameShape (t u : Ty) : Type 0 where
  nulls : is_nullable (nullability_of t) ≡ true → is_nullable (nullability_of u) ≡ true
  bools : is_bool_ty t ≡ is_bool_ty u
  texts : is_text_ty t ≡ is_text_ty u
  ints : (i : ℤ) → int_fits i t ≡ int_fits i u
  bool_there : (b : Bool) → bool_at b t ≡ bool_at b u
  int_there : (i : ℤ) → int_at i t ≡ int_at i u
  text_there : (s : Bytes) → text_at s t ≡ text_at s u

same_shape : (t u : Ty) → narrows t u ≡ true → SameShape t u
unfolding narrows
same_shape (bool_ty n) (bool_ty m) h = record {
  nulls = nullable_more n m h;
  bools = refl;
  texts = refl;
  ints = λ i. refl;
  bool_there = λ b. refl;
  int_there = λ i. refl;
  text_there = λ s. refl;
}
same_shape (int_ty p n) (int_ty q m) h =
    let parts = and_parts (same_ptype p q) (no_more_nullable n m) h in
    let same : p ≡ q = (ptype_decides p q).0 parts.0 in
    record {
      nulls = nullable_more n m parts.1;
      bools = refl;
      texts = refl;
      ints = λ i. ap (λ r. in_range r i) same;
      bool_there = λ b. refl;
      int_there = λ i. ap (λ r. int_val r i) same;
      text_there = λ s. refl;
    }
same_shape (text_ty n) (text_ty m) h = record {
  nulls = nullable_more n m h;
  bools = refl;
  texts = refl;
  ints = λ i. refl;
  bool_there = λ b. refl;
  int_there = λ i. refl;
  text_there = λ s. refl;
}
same_shape (list_ty e n) (list_ty d m) h = record {
  nulls = nullable_more n m (and_parts (narrows e d) (no_more_nullable n m) h).1;
  bools = refl;
  texts = refl;
  ints = λ i. refl;
  bool_there = λ b. refl;
  int_there = λ i. refl;
  text_there = λ s. refl;
}
same_shape (struct_ty fs n) (struct_ty gs m) h = record {
  nulls = nullable_more n m (and_parts (narrow_fields fs gs) (no_more_nullable n m) h).1;
  bools = refl;
  texts = refl;
  ints = λ i. refl;
  bool_there = λ b. refl;
  int_there = λ i. refl;
  text_there = λ s. refl;
}
same_shape _ _ h = let no : ⊥ = cc in absurd no

-- a type is a boolean where one that it narrows is
pub narrow_is_bool : (t u : Ty) → narrows t u ≡ true → is_bool_ty u ≡ true → is_bool_ty t ≡ true
narrow_is_bool t u h k = (same_shape t u h).bools ∙ k

mutual
  unfolding fits narrows

  pub narrow_fits : (x : Raw) (t u : Ty) → narrows t u ≡ true → fits x t ≡ true → fits x u ≡ true
  narrow_fits raw_null t u h k = (same_shape t u h).nulls k
  narrow_fits (raw_bool b) t u h k = sym (same_shape t u h).bools ∙ k
  narrow_fits (raw_int i) t u h k = sym ((same_shape t u h).ints i) ∙ k
  narrow_fits (raw_text s) t u h k = sym (same_shape t u h).texts ∙ k
  narrow_fits (raw_list xs) (list_ty e n) (list_ty d m) h k = narrow_all xs e d (and_parts (narrows e d) (no_more_nullable n m) h).0 k
  narrow_fits (raw_list xs) _ _ h k = let no : ⊥ = cc in absurd no
  narrow_fits (raw_struct xs) (struct_ty fs n) (struct_ty gs m) h k = narrow_each xs fs gs (and_parts (narrow_fields fs gs) (no_more_nullable n m) h).0 k
  narrow_fits (raw_struct xs) _ _ h k = let no : ⊥ = cc in absurd no

  narrow_all : (xs : Raws) (t u : Ty) → narrows t u ≡ true → all_fit xs t ≡ true → all_fit xs u ≡ true
  narrow_all no_raws t u h k = refl
  narrow_all (raw x xs) t u h k =
      let parts = and_parts (fits x t) (all_fit xs t) k in
      and_from (fits x u) (all_fit xs u) (narrow_fits x t u h parts.0) (narrow_all xs t u h parts.1)

  narrow_each : (xs : Raws) (fs gs : Fields) → narrow_fields fs gs ≡ true → fields_fit xs fs ≡ true → fields_fit xs gs ≡ true
  narrow_each no_raws no_fields no_fields h k = refl
  narrow_each (raw x xs) (field f t fs) (field g u gs) h k =
      let own = and_parts (narrows t u) (narrow_fields fs gs) (and_parts (bytes_eq f g) (narrows t u && narrow_fields fs gs) h).1 in
      let parts = and_parts (fits x t) (fields_fit xs fs) k in
      and_from (fits x u) (fields_fit xs gs) (narrow_fits x t u own.0 parts.0) (narrow_each xs fs gs own.1 parts.1)
  narrow_each _ _ _ h k = let no : ⊥ = cc in absurd no

mutual
  unfolding valued narrows

  pub narrow_valued : (x : Raw) (t u : Ty) → narrows t u ≡ true → valued x t ≡ valued x u
  narrow_valued raw_null t u h = refl
  narrow_valued (raw_bool b) t u h = (same_shape t u h).bool_there b
  narrow_valued (raw_int i) t u h = (same_shape t u h).int_there i
  narrow_valued (raw_text s) t u h = (same_shape t u h).text_there s
  narrow_valued (raw_list xs) (list_ty e n) (list_ty d m) h = ap list_val (narrow_all_valued xs e d (and_parts (narrows e d) (no_more_nullable n m) h).0)
  narrow_valued (raw_list xs) (bool_ty n) (bool_ty m) h = refl
  narrow_valued (raw_list xs) (int_ty p n) (int_ty q m) h = refl
  narrow_valued (raw_list xs) (text_ty n) (text_ty m) h = refl
  narrow_valued (raw_list xs) (struct_ty fs n) (struct_ty gs m) h = refl
  narrow_valued (raw_list xs) _ _ h = let no : ⊥ = cc in absurd no
  narrow_valued (raw_struct xs) (struct_ty fs n) (struct_ty gs m) h =
      let own = (and_parts (narrow_fields fs gs) (no_more_nullable n m) h).0 in
      λ i. cond (narrow_many xs fs gs own i) (struct_val (narrow_members xs fs gs own i)) fault
  narrow_valued (raw_struct xs) (bool_ty n) (bool_ty m) h = refl
  narrow_valued (raw_struct xs) (int_ty p n) (int_ty q m) h = refl
  narrow_valued (raw_struct xs) (text_ty n) (text_ty m) h = refl
  narrow_valued (raw_struct xs) (list_ty e n) (list_ty d m) h = refl
  narrow_valued (raw_struct xs) _ _ h = let no : ⊥ = cc in absurd no

  narrow_all_valued : (xs : Raws) (t u : Ty) → narrows t u ≡ true → all_valued xs t ≡ all_valued xs u
  narrow_all_valued no_raws t u h = refl
  narrow_all_valued (raw x xs) t u h = λ i. val (narrow_valued x t u h i) (narrow_all_valued xs t u h i)

  narrow_members : (xs : Raws) (fs gs : Fields) → narrow_fields fs gs ≡ true → members_valued xs fs ≡ members_valued xs gs
  narrow_members no_raws fs gs h = refl
  narrow_members (raw x xs) no_fields no_fields h = refl
  narrow_members (raw x xs) (field f t fs) (field g u gs) h =
      let names = and_parts (bytes_eq f g) (narrows t u && narrow_fields fs gs) h in
      let own = and_parts (narrows t u) (narrow_fields fs gs) names.1 in
      let same : f ≡ g = (bytes_eq-Decides f g).0 names.0 in
      λ i. member (same i) (narrow_valued x t u own.0 i) (narrow_members xs fs gs own.1 i)
  narrow_members (raw x xs) _ _ h = let no : ⊥ = cc in absurd no

  narrow_many : (xs : Raws) (fs gs : Fields) → narrow_fields fs gs ≡ true → as_many xs fs ≡ as_many xs gs
  narrow_many no_raws no_fields no_fields h = refl
  narrow_many no_raws (field f t fs) (field g u gs) h = refl
  narrow_many (raw x xs) no_fields no_fields h = refl
  narrow_many (raw x xs) (field f t fs) (field g u gs) h =
      narrow_many xs fs gs (and_parts (narrows t u) (narrow_fields fs gs) (and_parts (bytes_eq f g) (narrows t u && narrow_fields fs gs) h).1).1
  narrow_many _ _ _ h = let no : ⊥ = cc in absurd no
