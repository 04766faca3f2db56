-- For the checker: no public clause cites this. The tests of equality answer true exactly where the two sides are one.
use Rattle.std.specs.Prelude.{◌≡◌, true, ◌&&◌, List, refl, Decides}
use Rattle.std.proofs.Common.{ap, subst}
use Rattle.std.specs.Cmp.{IsEquivalence, decided, signed_Decides, first_so, second_so}
use Rattle.std.specs.Cmp.Lexicographic.{pointwise}
use Rattle.std.proofs.lemmas.Slice.Eq.{bytes_eq-Decides, slice_eq-Decides}
use Rattle.vx_dtype.specs.Values.{Val, null_val, bool_val, int_val, text_val, list_val, struct_val, fault, Vals, no_vals, val, Members, no_members, member}
use Rattle.vx_dtype.specs.EqualLaws.{ptype_decides, bool_decides, ty_eq-same, ty_eq-own}
use Rattle.vx_column.specs.Columns.{Column}
use Rattle.vx_column.specs.ColumnEqual.{val_eq, vals_eq, members_eq, column_eq}

mutual
  unfolding val_eq

  pub val_eq-same : (x y : Val) → val_eq x y ≡ true → x ≡ y
  val_eq-same null_val null_val e = refl
  val_eq-same (bool_val b) (bool_val c) e = ap bool_val ((bool_decides b c).0 e)
  val_eq-same (int_val p i) (int_val q j) e = λ k. int_val ((ptype_decides p q).0 (first_so _ _ e) k) ((signed_Decides i j).0 (second_so _ _ e) k)
  val_eq-same (text_val s) (text_val t) e = ap text_val ((bytes_eq-Decides s t).0 e)
  val_eq-same (list_val xs) (list_val ys) e = ap list_val (vals_eq-same xs ys e)
  val_eq-same (struct_val ms) (struct_val ns) e = ap struct_val (members_eq-same ms ns e)
  val_eq-same fault fault e = refl
  val_eq-same _ _ e = cc

  pub vals_eq-same : (xs ys : Vals) → vals_eq xs ys ≡ true → xs ≡ ys
  vals_eq-same no_vals no_vals e = refl
  vals_eq-same (val x xs) (val y ys) e = λ i. val (val_eq-same x y (first_so _ _ e) i) (vals_eq-same xs ys (second_so _ _ e) i)
  vals_eq-same _ _ e = cc

  pub members_eq-same : (ms ns : Members) → members_eq ms ns ≡ true → ms ≡ ns
  members_eq-same no_members no_members e = refl
  members_eq-same (member f x ms) (member g y ns) e =
      λ i. member ((bytes_eq-Decides f g).0 (first_so _ _ e) i) (val_eq-same x y (first_so _ _ (second_so _ _ e)) i)
      (members_eq-same ms ns (second_so _ _ (second_so _ _ e)) i)
  members_eq-same _ _ e = cc

mutual
  unfolding val_eq

  pub val_eq-own : (x : Val) → val_eq x x ≡ true
  val_eq-own null_val = refl
  val_eq-own (bool_val b) = (bool_decides b b).1 refl
  val_eq-own (int_val p i) = λ k. (ptype_decides p p).1 refl k && (signed_Decides i i).1 refl k
  val_eq-own (text_val s) = (bytes_eq-Decides s s).1 refl
  val_eq-own (list_val xs) = vals_eq-own xs
  val_eq-own (struct_val ms) = members_eq-own ms
  val_eq-own fault = refl

  pub vals_eq-own : (xs : Vals) → vals_eq xs xs ≡ true
  vals_eq-own no_vals = refl
  vals_eq-own (val x xs) = λ i. val_eq-own x i && vals_eq-own xs i

  pub members_eq-own : (ms : Members) → members_eq ms ms ≡ true
  members_eq-own no_members = refl
  members_eq-own (member f x ms) = λ i. (bytes_eq-Decides f f).1 refl i && (val_eq-own x i && members_eq-own ms i)

pub val_decides : (x y : Val) → Decides (val_eq x y) (x ≡ y)
val_decides x y = (val_eq-same x y, λ e. subst (λ z. val_eq x z ≡ true) e (val_eq-own x))

pub rows_decide : (xs ys : List Val) → Decides (pointwise val_eq xs ys) (xs ≡ ys)
rows_decide xs ys = slice_eq-Decides val_decides xs ys (pointwise val_eq xs ys) refl

pub column_eq-own : (c : Column) → column_eq c c ≡ true
column_eq-own c = λ i. ty_eq-own c.ty i && (rows_decide c.rows c.rows).1 refl i

pub column_decides : (c d : Column) → Decides (column_eq c d) (c ≡ d)
column_decides c d = (
  λ e. λ i. record { ty = ty_eq-same c.ty d.ty (first_so _ _ e) i; rows = (rows_decide c.rows d.rows).0 (second_so _ _ e) i },
  λ e. subst (λ b. column_eq c b ≡ true) e (column_eq-own c),
)

pub column_eq_equiv : IsEquivalence column_eq
column_eq_equiv = decided column_eq column_decides
