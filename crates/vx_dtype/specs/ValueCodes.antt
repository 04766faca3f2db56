-- For the checker: no public clause cites this.
-- A code of raw values and of scalars: by it the checker tells those that are seen apart.
use Rattle.std.proofs.Common.{◌≡◌, refl, ap}
use Rattle.std.specs.Coded.{Coded, coded_ℤ, coded_bool}
use base.Stored.{Gv, gnil, gcons}
use Rattle.vx_dtype.specs.Values.{Raw, raw_null, raw_bool, raw_int, raw_text, raw_list, raw_struct, Raws, no_raws, raw, Typed}
use Rattle.vx_dtype.specs.Codes.{coded_bytes, coded_ty}

-- six shapes that differ in their constructors, one for each kind of value
abbrev mutual
  pub raw_code : Raw → Gv
  raw_code raw_null = gnil
  raw_code (raw_bool b) = gcons gnil (coded_bool.code b)
  raw_code (raw_int i) = gcons (gcons gnil gnil) (coded_ℤ.code i)
  raw_code (raw_text s) = gcons (gcons gnil (gcons gnil gnil)) (coded_bytes.code s)
  raw_code (raw_list xs) = gcons (gcons (gcons gnil gnil) gnil) (raws_code xs)
  raw_code (raw_struct xs) = gcons (gcons (gcons gnil gnil) (gcons gnil gnil)) (raws_code xs)

  pub raws_code : Raws → Gv
  raws_code no_raws = gnil
  raws_code (raw x xs) = gcons (raw_code x) (raws_code xs)

mutual
  pub raw_code_inj : (x y : Raw) → raw_code x ≡ raw_code y → x ≡ y
  raw_code_inj raw_null raw_null p = refl
  raw_code_inj (raw_bool b) (raw_bool c) p =
      let a : coded_bool.code b ≡ coded_bool.code c = cc in
      ap raw_bool (coded_bool.inj b c a)
  raw_code_inj (raw_int i) (raw_int j) p =
      let a : coded_ℤ.code i ≡ coded_ℤ.code j = cc in
      ap raw_int (coded_ℤ.inj i j a)
  raw_code_inj (raw_text s) (raw_text t) p =
      let a : coded_bytes.code s ≡ coded_bytes.code t = cc in
      ap raw_text (coded_bytes.inj s t a)
  raw_code_inj (raw_list xs) (raw_list ys) p =
      let a : raws_code xs ≡ raws_code ys = cc in
      ap raw_list (raws_code_inj xs ys a)
  raw_code_inj (raw_struct xs) (raw_struct ys) p =
      let a : raws_code xs ≡ raws_code ys = cc in
      ap raw_struct (raws_code_inj xs ys a)
  raw_code_inj _ _ p = cc

  pub raws_code_inj : (xs ys : Raws) → raws_code xs ≡ raws_code ys → xs ≡ ys
  raws_code_inj no_raws no_raws p = refl
  raws_code_inj (raw x xs) (raw y ys) p =
      let a : raw_code x ≡ raw_code y = cc in
      let b : raws_code xs ≡ raws_code ys = cc in
      λ i. raw (raw_code_inj x y a i) (raws_code_inj xs ys b i)
  raws_code_inj _ _ p = cc

abbrev pub typed_code : Typed → Gv
typed_code s = gcons (coded_ty.code s.ty) (raw_code s.value)

pub typed_code_inj : (s t : Typed) → typed_code s ≡ typed_code t → s ≡ t
typed_code_inj s t p =
    let a : coded_ty.code s.ty ≡ coded_ty.code t.ty = cc in
    let b : raw_code s.value ≡ raw_code t.value = cc in
    λ i. record { ty = coded_ty.inj s.ty t.ty a i; value = raw_code_inj s.value t.value b i }

abbrev pub coded_typed : Coded Typed
coded_typed = record { code = typed_code; inj = typed_code_inj }
