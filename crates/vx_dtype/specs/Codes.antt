-- For the checker: no public clause cites this.
-- A code of types and of fields: by it the checker tells the types that are seen apart.
use Rattle.std.proofs.Common.{◌≡◌, ℕ, zero, suc, refl, ap}
use Rattle.std.specs.Coded.{Coded, code_by, coded_ℕ, coded_list}
use base.Stored.{Gv, gnil, gcons}
use Rattle.vx_dtype.specs.Types.{Bytes, Ty, bool_ty, int_ty, text_ty, list_ty, struct_ty, Fields, no_fields, field}
use Rattle.vx_dtype.specs.Types.{PType, U8, U16, U32, U64, I8, I16, I32, I64, Nullability, NonNullable, Nullable}
use Rattle.vx_dtype.specs.TypeRules.{ptype_number, null_number}

abbrev pub ptype_at : ℕ → PType
ptype_at zero = U8
ptype_at (suc zero) = U16
ptype_at (suc (suc zero)) = U32
ptype_at (suc (suc (suc zero))) = U64
ptype_at (suc (suc (suc (suc zero)))) = I8
ptype_at (suc (suc (suc (suc (suc zero))))) = I16
ptype_at (suc (suc (suc (suc (suc (suc zero)))))) = I32
ptype_at (suc (suc (suc (suc (suc (suc (suc n))))))) = I64

pub ptype_at-number : (p : PType) → ptype_at (ptype_number p) ≡ p
ptype_at-number U8 = refl
ptype_at-number U16 = refl
ptype_at-number U32 = refl
ptype_at-number U64 = refl
ptype_at-number I8 = refl
ptype_at-number I16 = refl
ptype_at-number I32 = refl
ptype_at-number I64 = refl

abbrev pub coded_ptype : Coded PType
coded_ptype = code_by ℕ coded_ℕ ptype_number ptype_at ptype_at-number

abbrev pub null_at : ℕ → Nullability
null_at zero = NonNullable
null_at (suc n) = Nullable

pub null_at-number : (n : Nullability) → null_at (null_number n) ≡ n
null_at-number NonNullable = refl
null_at-number Nullable = refl

abbrev pub coded_null : Coded Nullability
coded_null = code_by ℕ coded_ℕ null_number null_at null_at-number

abbrev pub coded_bytes : Coded Bytes
coded_bytes = coded_list coded_ℕ

-- five shapes that differ in their constructors, one for each kind of type
abbrev mutual
  pub ty_code : Ty → Gv
  ty_code (bool_ty n) = gcons gnil (coded_null.code n)
  ty_code (int_ty p n) = gcons (gcons gnil gnil) (gcons (coded_ptype.code p) (coded_null.code n))
  ty_code (text_ty n) = gcons (gcons gnil (gcons gnil gnil)) (coded_null.code n)
  ty_code (list_ty e n) = gcons (gcons (gcons gnil gnil) gnil) (gcons (ty_code e) (coded_null.code n))
  ty_code (struct_ty fs n) = gcons (gcons (gcons gnil gnil) (gcons gnil gnil)) (gcons (fields_code fs) (coded_null.code n))

  pub fields_code : Fields → Gv
  fields_code no_fields = gnil
  fields_code (field f t fs) = gcons (coded_bytes.code f) (gcons (ty_code t) (fields_code fs))

mutual
  pub ty_code_inj : (s t : Ty) → ty_code s ≡ ty_code t → s ≡ t
  ty_code_inj (bool_ty n) (bool_ty m) p =
      let a : coded_null.code n ≡ coded_null.code m = cc in
      ap bool_ty (coded_null.inj n m a)
  ty_code_inj (int_ty p n) (int_ty q m) e =
      let a : coded_ptype.code p ≡ coded_ptype.code q = cc in
      let b : coded_null.code n ≡ coded_null.code m = cc in
      λ i. int_ty (coded_ptype.inj p q a i) (coded_null.inj n m b i)
  ty_code_inj (text_ty n) (text_ty m) p =
      let a : coded_null.code n ≡ coded_null.code m = cc in
      ap text_ty (coded_null.inj n m a)
  ty_code_inj (list_ty e n) (list_ty d m) p =
      let a : ty_code e ≡ ty_code d = cc in
      let b : coded_null.code n ≡ coded_null.code m = cc in
      λ i. list_ty (ty_code_inj e d a i) (coded_null.inj n m b i)
  ty_code_inj (struct_ty fs n) (struct_ty gs m) p =
      let a : fields_code fs ≡ fields_code gs = cc in
      let b : coded_null.code n ≡ coded_null.code m = cc in
      λ i. struct_ty (fields_code_inj fs gs a i) (coded_null.inj n m b i)
  ty_code_inj _ _ p = cc

  pub fields_code_inj : (fs gs : Fields) → fields_code fs ≡ fields_code gs → fs ≡ gs
  fields_code_inj no_fields no_fields p = refl
  fields_code_inj (field f t fs) (field g u gs) p =
      let a : coded_bytes.code f ≡ coded_bytes.code g = cc in
      let b : ty_code t ≡ ty_code u = cc in
      let c : fields_code fs ≡ fields_code gs = cc in
      λ i. field (coded_bytes.inj f g a i) (ty_code_inj t u b i) (fields_code_inj fs gs c i)
  fields_code_inj _ _ p = cc

abbrev pub coded_ty : Coded Ty
coded_ty = record { code = ty_code; inj = ty_code_inj }

abbrev pub coded_fields : Coded Fields
coded_fields = record { code = fields_code; inj = fields_code_inj }
