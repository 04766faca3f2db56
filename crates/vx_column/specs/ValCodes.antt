-- For the checker: no public clause cites this. A code of values, and of columns: by it the checker tells those that are seen apart.
use Rattle.std.proofs.Common.{◌≡◌, refl, ap, List}
use Rattle.std.specs.Coded.{Coded, coded_ℤ, coded_bool, coded_list}
use base.Stored.{Gv, gnil, gcons}
use Rattle.vx_dtype.specs.Values.{Val, null_val, bool_val, int_val, text_val, list_val, struct_val, fault, Vals, no_vals, val, Members, no_members, member}
use Rattle.vx_dtype.specs.Codes.{coded_bytes, coded_ptype, coded_ty}
use Rattle.vx_column.specs.Columns.{Column}

-- seven shapes that differ in their constructors, one for each kind of value
abbrev mutual
  pub val_code : Val → Gv
  val_code null_val = gnil
  val_code (bool_val b) = gcons gnil (coded_bool.code b)
  val_code (int_val p i) = gcons (gcons gnil gnil) (gcons (coded_ptype.code p) (coded_ℤ.code i))
  val_code (text_val s) = gcons (gcons gnil (gcons gnil gnil)) (coded_bytes.code s)
  val_code (list_val xs) = gcons (gcons (gcons gnil gnil) gnil) (vals_code xs)
  val_code (struct_val ms) = gcons (gcons (gcons gnil gnil) (gcons gnil gnil)) (members_code ms)
  val_code fault = gcons (gcons (gcons gnil (gcons gnil gnil)) gnil) gnil

  pub vals_code : Vals → Gv
  vals_code no_vals = gnil
  vals_code (val x xs) = gcons (val_code x) (vals_code xs)

  pub members_code : Members → Gv
  members_code no_members = gnil
  members_code (member f x ms) = gcons (coded_bytes.code f) (gcons (val_code x) (members_code ms))

mutual
  pub val_code_inj : (x y : Val) → val_code x ≡ val_code y → x ≡ y
  val_code_inj null_val null_val e = refl
  val_code_inj fault fault e = refl
  val_code_inj (bool_val b) (bool_val c) e =
      let a : coded_bool.code b ≡ coded_bool.code c = cc in
      ap bool_val (coded_bool.inj b c a)
  val_code_inj (int_val p i) (int_val q j) e =
      let a : coded_ptype.code p ≡ coded_ptype.code q = cc in
      let b : coded_ℤ.code i ≡ coded_ℤ.code j = cc in
      λ k. int_val (coded_ptype.inj p q a k) (coded_ℤ.inj i j b k)
  val_code_inj (text_val s) (text_val t) e =
      let a : coded_bytes.code s ≡ coded_bytes.code t = cc in
      ap text_val (coded_bytes.inj s t a)
  val_code_inj (list_val xs) (list_val ys) e =
      let a : vals_code xs ≡ vals_code ys = cc in
      ap list_val (vals_code_inj xs ys a)
  val_code_inj (struct_val xs) (struct_val ys) e =
      let a : members_code xs ≡ members_code ys = cc in
      ap struct_val (members_code_inj xs ys a)
  val_code_inj _ _ e = cc

  pub vals_code_inj : (xs ys : Vals) → vals_code xs ≡ vals_code ys → xs ≡ ys
  vals_code_inj no_vals no_vals e = refl
  vals_code_inj (val x xs) (val y ys) e =
      let a : val_code x ≡ val_code y = cc in
      let b : vals_code xs ≡ vals_code ys = cc in
      λ i. val (val_code_inj x y a i) (vals_code_inj xs ys b i)
  vals_code_inj _ _ e = cc

  pub members_code_inj : (xs ys : Members) → members_code xs ≡ members_code ys → xs ≡ ys
  members_code_inj no_members no_members e = refl
  members_code_inj (member f x xs) (member g y ys) e =
      let a : coded_bytes.code f ≡ coded_bytes.code g = cc in
      let b : val_code x ≡ val_code y = cc in
      let c : members_code xs ≡ members_code ys = cc in
      λ i. member (coded_bytes.inj f g a i) (val_code_inj x y b i) (members_code_inj xs ys c i)
  members_code_inj _ _ e = cc

abbrev pub coded_val : Coded Val
coded_val = record { code = val_code; inj = val_code_inj }

abbrev pub coded_vals : Coded (List Val)
coded_vals = coded_list coded_val

abbrev pub column_code : Column → Gv
column_code c = gcons (coded_ty.code c.ty) (coded_vals.code c.rows)

pub column_code_inj : (c d : Column) → column_code c ≡ column_code d → c ≡ d
column_code_inj c d p =
    let a : coded_ty.code c.ty ≡ coded_ty.code d.ty = cc in
    let b : coded_vals.code c.rows ≡ coded_vals.code d.rows = cc in
    λ i. record { ty = coded_ty.inj c.ty d.ty a i; rows = coded_vals.inj c.rows d.rows b i }

abbrev pub coded_column : Coded Column
coded_column = record { code = column_code; inj = column_code_inj }
