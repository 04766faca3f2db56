-- For the checker: no public clause cites this.
-- The tests of equality answer true exactly where the two sides are one.
use Rattle.std.specs.Prelude.{◌≡◌, Bool, true, false, ◌&&◌, List, refl, Decides}
use Rattle.std.proofs.Common.{ap, subst}
use Rattle.std.specs.Cmp.{IsEquivalence, decided, signed_Decides, first_so, second_so}
use Rattle.std.specs.Str.{bytes_eq}
use Rattle.std.proofs.lemmas.Slice.Eq.{bytes_eq-Decides, slice_eq-Decides}
use Rattle.vx_dtype.specs.Types.{Bytes, Ty, bool_ty, int_ty, text_ty, list_ty, struct_ty, Fields, no_fields, field, PType, U8, U16, U32, U64, I8, I16}
use Rattle.vx_dtype.specs.Types.{I32, I64, Nullability, NonNullable, Nullable}
use Rattle.vx_dtype.specs.TypeRules.{same_ptype}
use Rattle.vx_dtype.specs.Values.{Raw, raw_null, raw_bool, raw_int, raw_text, raw_list, raw_struct, Raws, no_raws, raw, Typed}
use Rattle.vx_dtype.specs.Equal.{names_eq, same_nullability, same_bool, ty_eq, fields_eq, raw_eq, raws_eq, typed_eq}

pub names_decides : (fs gs : List Bytes) → Decides (names_eq fs gs) (fs ≡ gs)
names_decides fs gs = slice_eq-Decides bytes_eq-Decides fs gs (names_eq fs gs) refl

pub ptype_decides : (p q : PType) → Decides (same_ptype p q) (p ≡ q)
ptype_decides U8 U8 = (λ e. refl, λ e. refl)
ptype_decides U16 U16 = (λ e. refl, λ e. refl)
ptype_decides U32 U32 = (λ e. refl, λ e. refl)
ptype_decides U64 U64 = (λ e. refl, λ e. refl)
ptype_decides I8 I8 = (λ e. refl, λ e. refl)
ptype_decides I16 I16 = (λ e. refl, λ e. refl)
ptype_decides I32 I32 = (λ e. refl, λ e. refl)
ptype_decides I64 I64 = (λ e. refl, λ e. refl)
ptype_decides _ _ = (λ e. cc, λ e. cc)

pub nullability_decides : (n m : Nullability) → Decides (same_nullability n m) (n ≡ m)
nullability_decides NonNullable NonNullable = (λ e. refl, λ e. refl)
nullability_decides Nullable Nullable = (λ e. refl, λ e. refl)
nullability_decides _ _ = (λ e. cc, λ e. cc)

pub bool_decides : (b c : Bool) → Decides (same_bool b c) (b ≡ c)
bool_decides true true = (λ e. refl, λ e. refl)
bool_decides false false = (λ e. refl, λ e. refl)
bool_decides _ _ = (λ e. cc, λ e. cc)

mutual
  unfolding ty_eq

  pub ty_eq-same : (s t : Ty) → ty_eq s t ≡ true → s ≡ t
  ty_eq-same (bool_ty n) (bool_ty m) e = ap bool_ty ((nullability_decides n m).0 e)
  ty_eq-same (int_ty p n) (int_ty q m) e = λ i. int_ty ((ptype_decides p q).0 (first_so _ _ e) i) ((nullability_decides n m).0 (second_so _ _ e) i)
  ty_eq-same (text_ty n) (text_ty m) e = ap text_ty ((nullability_decides n m).0 e)
  ty_eq-same (list_ty a n) (list_ty b m) e = λ i. list_ty (ty_eq-same a b (first_so _ _ e) i) ((nullability_decides n m).0 (second_so _ _ e) i)
  ty_eq-same (struct_ty fs n) (struct_ty gs m) e = λ i. struct_ty (fields_eq-same fs gs (first_so _ _ e) i) ((nullability_decides n m).0 (second_so _ _ e) i)
  ty_eq-same _ _ e = cc

  pub fields_eq-same : (fs gs : Fields) → fields_eq fs gs ≡ true → fs ≡ gs
  fields_eq-same no_fields no_fields e = refl
  fields_eq-same (field f t fs) (field g u gs) e =
      let types = first_so _ _ (second_so _ _ e) in
      let rest = second_so _ _ (second_so _ _ e) in
      λ i. field ((bytes_eq-Decides f g).0 (first_so _ _ e) i) (ty_eq-same t u types i) (fields_eq-same fs gs rest i)
  fields_eq-same _ _ e = cc

mutual
  unfolding ty_eq

  pub ty_eq-own : (t : Ty) → ty_eq t t ≡ true
  ty_eq-own (bool_ty n) = (nullability_decides n n).1 refl
  ty_eq-own (int_ty p n) = λ i. (ptype_decides p p).1 refl i && (nullability_decides n n).1 refl i
  ty_eq-own (text_ty n) = (nullability_decides n n).1 refl
  ty_eq-own (list_ty a n) = λ i. ty_eq-own a i && (nullability_decides n n).1 refl i
  ty_eq-own (struct_ty fs n) = λ i. fields_eq-own fs i && (nullability_decides n n).1 refl i

  pub fields_eq-own : (fs : Fields) → fields_eq fs fs ≡ true
  fields_eq-own no_fields = refl
  fields_eq-own (field f t fs) = λ i. (bytes_eq-Decides f f).1 refl i && (ty_eq-own t i && fields_eq-own fs i)

pub ty_decides : (s t : Ty) → Decides (ty_eq s t) (s ≡ t)
ty_decides s t = (ty_eq-same s t, λ e. subst (λ u. ty_eq s u ≡ true) e (ty_eq-own s))

pub fields_decides : (fs gs : Fields) → Decides (fields_eq fs gs) (fs ≡ gs)
fields_decides fs gs = (fields_eq-same fs gs, λ e. subst (λ hs. fields_eq fs hs ≡ true) e (fields_eq-own fs))

mutual
  unfolding raw_eq

  pub raw_eq-same : (x y : Raw) → raw_eq x y ≡ true → x ≡ y
  raw_eq-same raw_null raw_null e = refl
  raw_eq-same (raw_bool b) (raw_bool c) e = ap raw_bool ((bool_decides b c).0 e)
  raw_eq-same (raw_int i) (raw_int j) e = ap raw_int ((signed_Decides i j).0 e)
  raw_eq-same (raw_text s) (raw_text t) e = ap raw_text ((bytes_eq-Decides s t).0 e)
  raw_eq-same (raw_list xs) (raw_list ys) e = ap raw_list (raws_eq-same xs ys e)
  raw_eq-same (raw_struct xs) (raw_struct ys) e = ap raw_struct (raws_eq-same xs ys e)
  raw_eq-same _ _ e = cc

  pub raws_eq-same : (xs ys : Raws) → raws_eq xs ys ≡ true → xs ≡ ys
  raws_eq-same no_raws no_raws e = refl
  raws_eq-same (raw x xs) (raw y ys) e = λ i. raw (raw_eq-same x y (first_so _ _ e) i) (raws_eq-same xs ys (second_so _ _ e) i)
  raws_eq-same _ _ e = cc

mutual
  unfolding raw_eq

  pub raw_eq-own : (x : Raw) → raw_eq x x ≡ true
  raw_eq-own raw_null = refl
  raw_eq-own (raw_bool b) = (bool_decides b b).1 refl
  raw_eq-own (raw_int i) = (signed_Decides i i).1 refl
  raw_eq-own (raw_text s) = (bytes_eq-Decides s s).1 refl
  raw_eq-own (raw_list xs) = raws_eq-own xs
  raw_eq-own (raw_struct xs) = raws_eq-own xs

  pub raws_eq-own : (xs : Raws) → raws_eq xs xs ≡ true
  raws_eq-own no_raws = refl
  raws_eq-own (raw x xs) = λ i. raw_eq-own x i && raws_eq-own xs i

pub raw_decides : (x y : Raw) → Decides (raw_eq x y) (x ≡ y)
raw_decides x y = (raw_eq-same x y, λ e. subst (λ z. raw_eq x z ≡ true) e (raw_eq-own x))

pub typed_decides : (a b : Typed) → Decides (typed_eq a b) (a ≡ b)
typed_decides a b = (
  λ e. λ i. record { ty = ty_eq-same a.ty b.ty (first_so _ _ e) i; value = raw_eq-same a.value b.value (second_so _ _ e) i },
  λ e. subst (λ c. typed_eq a c ≡ true) e (λ i. ty_eq-own a.ty i && raw_eq-own a.value i),
)

pub bytes_eq_equiv : IsEquivalence bytes_eq
bytes_eq_equiv = decided bytes_eq bytes_eq-Decides

pub names_eq_equiv : IsEquivalence names_eq
names_eq_equiv = decided names_eq names_decides

pub ty_eq_equiv : IsEquivalence ty_eq
ty_eq_equiv = decided ty_eq ty_decides

pub fields_eq_equiv : IsEquivalence fields_eq
fields_eq_equiv = decided fields_eq fields_decides

pub raw_eq_equiv : IsEquivalence raw_eq
raw_eq_equiv = decided raw_eq raw_decides

pub typed_eq_equiv : IsEquivalence typed_eq
typed_eq_equiv = decided typed_eq typed_decides
