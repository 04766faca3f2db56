-- That what the rules at one row give fits the types of the typing table, but for faults.
use Rattle.std.proofs.Common.{◌≡◌, refl, ap, ◌∙◌, Bool, true, false, cond, ◌&&◌, Option, Some, None, subst}
use Rattle.std.specs.declared.cmp.Ordering.{Ordering}
use Rattle.std.specs.Prelude.{ℤ, ◌+ℤ◌, ◌-ℤ◌, option_map}
use Rattle.std.proofs.lemmas.Bool.{and_parts, and_from}
use Rattle.vx_dtype.specs.declared.PType.{PType}
use Rattle.vx_dtype.specs.declared.PType.TheVariants.{U8, U16, U32, U64, I8, I16, I32, I64}
use Rattle.vx_dtype.specs.declared.Nullability.{Nullability}
use Rattle.vx_dtype.specs.declared.Nullability.TheVariants.{NonNullable, Nullable}
use Rattle.vx_dtype.specs.declared.CompareOperator.{CompareOperator}
use Rattle.vx_dtype.specs.declared.BetweenOptions.{BetweenOptions}
use Rattle.vx_dtype.specs.Types.{Ty, bool_ty, int_ty, text_ty, list_ty, struct_ty, Fields, no_fields, field}
use Rattle.vx_dtype.specs.TypeRules.{is_nullable, nullability_of, union, same_ptype, alike, is_plain}
use Rattle.vx_dtype.proofs.ValuedLemmas.{val_fits_valued}
use Rattle.vx_dtype.specs.Values.{as_many, Raw, raw_null, raw_bool, raw_int, raw_text, raw_list, raw_struct, Val, null_val, bool_val, int_val, text_val, list_val, struct_val, fault, Vals, no_vals, val, Members, no_members, member, Typed, valued, members_valued, value_of}
use Rattle.vx_dtype.specs.Fits.{fits, in_range, val_fits, vals_fit, members_fit, fits_but_for_faults, vals_fit_but_for_faults, members_fit_but_for_faults}
use Rattle.vx_dtype.specs.Logic.{Tri, holds, fails, unknown, broken, tri, truth, and_tri, or_tri, not_tri, and3, or3, not3, is_null3, on_known}
use Rattle.vx_dtype.specs.Order.{order, by_order, compared, compare3, between3, bound_operator}
use Rattle.vx_dtype.specs.Sums.{int_in, sum_of, difference_of, add3, sub3}
use Rattle.vx_dtype.specs.Like.{like_of, like3}
use Rattle.vx_dtype.specs.Casts.{takes_cast, cast3}
use Rattle.vx_dtype.specs.Lists.{contains_of, contains3}
use Rattle.vx_semantics.specs.Meaning.{default_answer, dynamic3}
use Rattle.vx_semantics.specs.Slots.{null_allowed, held_fits}
use Rattle.vx_laws.proofs.Comparing.{same_ptype-same}

-- whether a value is null only where this is nullable
abbrev pub null_ok : Val → Nullability → Bool
null_ok null_val n = is_nullable n
null_ok _ n = true

pub null_ok-fits : (v : Val) (t : Ty) → fits_but_for_faults v t ≡ true → null_ok v (nullability_of t) ≡ true
unfolding fits_but_for_faults
null_ok-fits null_val t h = h
null_ok-fits _ t h = refl

pub is_nullable-left : (n m : Nullability) → is_nullable n ≡ true → is_nullable (union n m) ≡ true
is_nullable-left Nullable m h = refl
is_nullable-left NonNullable m h = let no : ⊥ = cc in absurd no

pub is_nullable-right : (n m : Nullability) → is_nullable m ≡ true → is_nullable (union n m) ≡ true
is_nullable-right Nullable m h = refl
is_nullable-right NonNullable m h = h

-- a plain value that is null only where its type is nullable
pub fault-fits : (t : Ty) → is_plain t ≡ true → fits_but_for_faults fault t ≡ true
unfolding fits_but_for_faults
fault-fits t h = h

pub null-fits : (t : Ty) → is_nullable (nullability_of t) ≡ true → fits_but_for_faults null_val t ≡ true
unfolding fits_but_for_faults
null-fits t h = h

-- what a rule of two operands gives fits where the rule's own answer does
pub on_known-fits : (rule : Val → Val → Val) (l r : Val) (n m : Nullability) (t : Ty)
    → null_ok l n ≡ true → null_ok r m ≡ true → nullability_of t ≡ union n m → is_plain t ≡ true
    → fits_but_for_faults (rule l r) t ≡ true → fits_but_for_faults (on_known rule l r) t ≡ true
on_known-fits rule fault r n m t a b e p h = fault-fits t p
on_known-fits rule null_val fault n m t a b e p h = fault-fits t p
on_known-fits rule (bool_val x) fault n m t a b e p h = fault-fits t p
on_known-fits rule (int_val q x) fault n m t a b e p h = fault-fits t p
on_known-fits rule (text_val x) fault n m t a b e p h = fault-fits t p
on_known-fits rule (list_val x) fault n m t a b e p h = fault-fits t p
on_known-fits rule (struct_val x) fault n m t a b e p h = fault-fits t p
on_known-fits rule null_val r n m t a b e p h = null-fits t (ap is_nullable e ∙ is_nullable-left n m a)
on_known-fits rule (bool_val x) null_val n m t a b e p h = null-fits t (ap is_nullable e ∙ is_nullable-right n m b)
on_known-fits rule (int_val q x) null_val n m t a b e p h = null-fits t (ap is_nullable e ∙ is_nullable-right n m b)
on_known-fits rule (text_val x) null_val n m t a b e p h = null-fits t (ap is_nullable e ∙ is_nullable-right n m b)
on_known-fits rule (list_val x) null_val n m t a b e p h = null-fits t (ap is_nullable e ∙ is_nullable-right n m b)
on_known-fits rule (struct_val x) null_val n m t a b e p h = null-fits t (ap is_nullable e ∙ is_nullable-right n m b)
on_known-fits rule l r n m t a b e p h = h

by_order-fits : (op : CompareOperator) (o : Option Ordering) (n : Nullability) → fits_but_for_faults (by_order op o) (bool_ty n) ≡ true
unfolding fits_but_for_faults
by_order-fits op None n = refl
by_order-fits op (Some o) n = refl

pub compare3-fits : (op : CompareOperator) (l r : Val) (n m : Nullability) → null_ok l n ≡ true → null_ok r m ≡ true → fits_but_for_faults (compare3 op l r) (bool_ty (union n m)) ≡ true
compare3-fits op l r n m a b = on_known-fits (compared op) l r n m (bool_ty (union n m)) a b refl refl (by_order-fits op (order l r) (union n m))

-- whether a truth value is unknown only where this is nullable
abbrev pub unknown_ok : Tri → Nullability → Bool
unknown_ok unknown n = is_nullable n
unknown_ok _ n = true

pub tri-ok : (v : Val) (n : Nullability) → null_ok v n ≡ true → unknown_ok (tri v) n ≡ true
tri-ok null_val n h = h
tri-ok (bool_val true) n h = refl
tri-ok (bool_val false) n h = refl
tri-ok _ n h = refl

pub truth-fits : (x : Tri) (n : Nullability) → unknown_ok x n ≡ true → fits_but_for_faults (truth x) (bool_ty n) ≡ true
unfolding fits_but_for_faults
truth-fits unknown n h = h
truth-fits _ n h = refl

unknown_ok-Nullable : (x : Tri) → unknown_ok x Nullable ≡ true
unknown_ok-Nullable unknown = refl
unknown_ok-Nullable _ = refl

and_tri-ok : (x y : Tri) (n m : Nullability) → unknown_ok x n ≡ true → unknown_ok y m ≡ true → unknown_ok (and_tri x y) (union n m) ≡ true
and_tri-ok x y Nullable m a b = unknown_ok-Nullable (and_tri x y)
and_tri-ok x y NonNullable Nullable a b = unknown_ok-Nullable (and_tri x y)
and_tri-ok broken y NonNullable NonNullable a b = refl
and_tri-ok holds holds NonNullable NonNullable a b = refl
and_tri-ok holds fails NonNullable NonNullable a b = refl
and_tri-ok holds broken NonNullable NonNullable a b = refl
and_tri-ok holds unknown NonNullable NonNullable a b = b
and_tri-ok fails holds NonNullable NonNullable a b = refl
and_tri-ok fails _ NonNullable NonNullable a b = refl
and_tri-ok unknown holds NonNullable NonNullable a b = a
and_tri-ok unknown fails NonNullable NonNullable a b = refl
and_tri-ok unknown broken NonNullable NonNullable a b = refl
and_tri-ok unknown unknown NonNullable NonNullable a b = a

or_tri-ok : (x y : Tri) (n m : Nullability) → unknown_ok x n ≡ true → unknown_ok y m ≡ true → unknown_ok (or_tri x y) (union n m) ≡ true
or_tri-ok x y Nullable m a b = unknown_ok-Nullable (or_tri x y)
or_tri-ok x y NonNullable Nullable a b = unknown_ok-Nullable (or_tri x y)
or_tri-ok broken y NonNullable NonNullable a b = refl
or_tri-ok fails fails NonNullable NonNullable a b = refl
or_tri-ok fails holds NonNullable NonNullable a b = refl
or_tri-ok fails broken NonNullable NonNullable a b = refl
or_tri-ok fails unknown NonNullable NonNullable a b = b
or_tri-ok holds fails NonNullable NonNullable a b = refl
or_tri-ok holds _ NonNullable NonNullable a b = refl
or_tri-ok unknown fails NonNullable NonNullable a b = a
or_tri-ok unknown holds NonNullable NonNullable a b = refl
or_tri-ok unknown broken NonNullable NonNullable a b = refl
or_tri-ok unknown unknown NonNullable NonNullable a b = a

not_tri-ok : (x : Tri) (n : Nullability) → unknown_ok x n ≡ true → unknown_ok (not_tri x) n ≡ true
not_tri-ok unknown n h = h
not_tri-ok _ n h = refl

pub and3-fits : (l r : Val) (n m : Nullability) → null_ok l n ≡ true → null_ok r m ≡ true → fits_but_for_faults (and3 l r) (bool_ty (union n m)) ≡ true
and3-fits l r n m a b = truth-fits (and_tri (tri l) (tri r)) (union n m) (and_tri-ok (tri l) (tri r) n m (tri-ok l n a) (tri-ok r m b))

pub or3-fits : (l r : Val) (n m : Nullability) → null_ok l n ≡ true → null_ok r m ≡ true → fits_but_for_faults (or3 l r) (bool_ty (union n m)) ≡ true
or3-fits l r n m a b = truth-fits (or_tri (tri l) (tri r)) (union n m) (or_tri-ok (tri l) (tri r) n m (tri-ok l n a) (tri-ok r m b))

pub not3-fits : (v : Val) (n : Nullability) → null_ok v n ≡ true → fits_but_for_faults (not3 v) (bool_ty n) ≡ true
not3-fits v n a = truth-fits (not_tri (tri v)) n (not_tri-ok (tri v) n (tri-ok v n a))

pub is_null3-fits : (v : Val) (n : Nullability) → fits_but_for_faults (is_null3 v) (bool_ty n) ≡ true
unfolding fits_but_for_faults
is_null3-fits fault n = refl
is_null3-fits null_val n = refl
is_null3-fits _ n = refl

like_of-fits : (negated fold_case : Bool) (l r : Val) (n : Nullability) → fits_but_for_faults (like_of negated fold_case l r) (bool_ty n) ≡ true
unfolding fits_but_for_faults
like_of-fits negated fold_case (text_val s) (text_val p) n = refl
like_of-fits negated fold_case _ _ n = refl

pub like3-fits : (negated fold_case : Bool) (l r : Val) (n m : Nullability) → null_ok l n ≡ true → null_ok r m ≡ true → fits_but_for_faults (like3 negated fold_case l r) (bool_ty (union n m)) ≡ true
like3-fits negated fold_case l r n m a b = on_known-fits (like_of negated fold_case) l r n m (bool_ty (union n m)) a b refl refl (like_of-fits negated fold_case l r (union n m))

contains_of-fits : (l v : Val) (n : Nullability) → fits_but_for_faults (contains_of l v) (bool_ty n) ≡ true
unfolding fits_but_for_faults
contains_of-fits (list_val xs) v n = refl
contains_of-fits _ v n = refl

pub contains3-fits : (l v : Val) (n m : Nullability) → null_ok l n ≡ true → null_ok v m ≡ true → fits_but_for_faults (contains3 l v) (bool_ty (union n m)) ≡ true
contains3-fits l v n m a b = on_known-fits contains_of l v n m (bool_ty (union n m)) a b refl refl (contains_of-fits l v (union n m))

-- a boolean that fits a type is null only where the type is nullable
pub bool_null_ok : (v : Val) (n : Nullability) → fits_but_for_faults v (bool_ty n) ≡ true → null_ok v n ≡ true
bool_null_ok v n h = null_ok-fits v (bool_ty n) h

union-between : (n k m : Nullability) → union (union k n) (union n m) ≡ union n (union k m)
union-between NonNullable NonNullable NonNullable = refl
union-between NonNullable NonNullable Nullable = refl
union-between NonNullable Nullable m = refl
union-between Nullable NonNullable m = refl
union-between Nullable Nullable m = refl

pub between3-fits : (options : BetweenOptions) (v lower upper : Val) (n k m : Nullability) → null_ok v n ≡ true → null_ok lower k ≡ true → null_ok upper m ≡ true
    → fits_but_for_faults (between3 options v lower upper) (bool_ty (union n (union k m))) ≡ true
between3-fits options v lower upper n k m a b c =
    let low = compare3 (bound_operator options.lower_strict) lower v in
    let high = compare3 (bound_operator options.upper_strict) v upper in
    subst (λ (x : Nullability). fits_but_for_faults (and3 low high) (bool_ty x) ≡ true) (union-between n k m)
    (and3-fits low high (union k n) (union n m) (bool_null_ok low (union k n) (compare3-fits (bound_operator options.lower_strict) lower v k n b a))
    (bool_null_ok high (union n m) (compare3-fits (bound_operator options.upper_strict) v upper n m a c)))

pub same_ptype-itself : (p : PType) → same_ptype p p ≡ true
same_ptype-itself U8 = refl
same_ptype-itself U16 = refl
same_ptype-itself U32 = refl
same_ptype-itself U64 = refl
same_ptype-itself I8 = refl
same_ptype-itself I16 = refl
same_ptype-itself I32 = refl
same_ptype-itself I64 = refl

int_in-by : (p : PType) (i : ℤ) (n : Nullability) (b : Bool) → in_range p i ≡ b → fits_but_for_faults (cond b (int_val p i) fault) (int_ty p n) ≡ true
unfolding fits_but_for_faults
int_in-by p i n true h = and_from (same_ptype p p) (in_range p i) (same_ptype-itself p) h
int_in-by p i n false h = refl

pub int_in-fits : (p : PType) (i : ℤ) (n : Nullability) → fits_but_for_faults (int_in p i) (int_ty p n) ≡ true
int_in-fits p i n = int_in-by p i n (in_range p i) refl

-- the integer type of a number that fits an integer type
int-same : (p q : PType) (i : ℤ) (n : Nullability) → fits_but_for_faults (int_val p i) (int_ty q n) ≡ true → p ≡ q
unfolding fits_but_for_faults
int-same p q i n h = same_ptype-same p q (and_parts (same_ptype p q) (in_range q i) h).0

sum_of-fits : (l r : Val) (p : PType) (n m : Nullability) → fits_but_for_faults l (int_ty p n) ≡ true → fits_but_for_faults (sum_of l r) (int_ty p m) ≡ true
unfolding fits_but_for_faults
sum_of-fits (int_val q a) (int_val o b) p n m h =
    subst (λ (x : PType). fits_but_for_faults (int_in q (a +ℤ b)) (int_ty x m) ≡ true) (int-same q p a n h) (int_in-fits q (a +ℤ b) m)
sum_of-fits _ _ p n m h = refl

difference_of-fits : (l r : Val) (p : PType) (n m : Nullability) → fits_but_for_faults l (int_ty p n) ≡ true → fits_but_for_faults (difference_of l r) (int_ty p m) ≡ true
unfolding fits_but_for_faults
difference_of-fits (int_val q a) (int_val o b) p n m h =
    subst (λ (x : PType). fits_but_for_faults (int_in q (a -ℤ b)) (int_ty x m) ≡ true) (int-same q p a n h) (int_in-fits q (a -ℤ b) m)
difference_of-fits _ _ p n m h = refl

pub add3-fits : (l r : Val) (p : PType) (n m : Nullability) → fits_but_for_faults l (int_ty p n) ≡ true → null_ok r m ≡ true → fits_but_for_faults (add3 l r) (int_ty p (union n m)) ≡ true
add3-fits l r p n m a b = on_known-fits sum_of l r n m (int_ty p (union n m)) (null_ok-fits l (int_ty p n) a) b refl refl (sum_of-fits l r p n (union n m) a)

pub sub3-fits : (l r : Val) (p : PType) (n m : Nullability) → fits_but_for_faults l (int_ty p n) ≡ true → null_ok r m ≡ true → fits_but_for_faults (sub3 l r) (int_ty p (union n m)) ≡ true
sub3-fits l r p n m a b = on_known-fits difference_of l r n m (int_ty p (union n m)) (null_ok-fits l (int_ty p n) a) b refl refl (difference_of-fits l r p n (union n m) a)

pub takes_cast-plain : (a t : Ty) → takes_cast a t ≡ true → is_plain t ≡ true
takes_cast-plain (bool_ty n) (bool_ty m) h = refl
takes_cast-plain (int_ty p n) (int_ty q m) h = refl
takes_cast-plain (text_ty n) (text_ty m) h = refl
takes_cast-plain _ _ h = cc

null_or_fault-fits : (t : Ty) (b : Bool) → is_nullable (nullability_of t) ≡ b → is_plain t ≡ true → fits_but_for_faults (cond b null_val fault) t ≡ true
null_or_fault-fits t true h p = null-fits t h
null_or_fault-fits t false h p = fault-fits t p

pub cast3-fits : (t : Ty) (v : Val) → is_plain t ≡ true → fits_but_for_faults (cast3 t v) t ≡ true
unfolding fits_but_for_faults
cast3-fits t null_val h = null_or_fault-fits t (is_nullable (nullability_of t)) refl h
cast3-fits (int_ty p n) (int_val q i) h = int_in-fits p i n
cast3-fits (bool_ty n) (bool_val b) h = refl
cast3-fits (text_ty n) (text_val s) h = refl
cast3-fits (list_ty e n) (bool_val b) h = h
cast3-fits (struct_ty fs n) (bool_val b) h = h
cast3-fits _ _ h = h

default-fits : (b : Bool) (v : Val) (n : Nullability) → fits_but_for_faults (default_answer b v) (bool_ty n) ≡ true
unfolding fits_but_for_faults
default-fits b fault n = refl
default-fits b _ n = refl

held_struct-null_ok : (same : Bool) (ms : Members) (n : Nullability) → null_ok (cond same (struct_val ms) fault) n ≡ true
held_struct-null_ok true ms n = refl
held_struct-null_ok false ms n = refl

held_null_ok : (r : Raw) (s : Ty) (t : Ty) → null_allowed r t ≡ true → null_ok (valued r s) (nullability_of t) ≡ true
unfolding valued
held_null_ok raw_null s t h = h
held_null_ok (raw_bool b) (bool_ty n) t h = refl
held_null_ok (raw_bool b) _ t h = refl
held_null_ok (raw_int b) (int_ty p n) t h = refl
held_null_ok (raw_int b) _ t h = refl
held_null_ok (raw_text b) (text_ty n) t h = refl
held_null_ok (raw_text b) _ t h = refl
held_null_ok (raw_list b) (list_ty e n) t h = refl
held_null_ok (raw_list b) _ t h = refl
held_null_ok (raw_struct b) (struct_ty fs n) t h = held_struct-null_ok (as_many b fs) (members_valued b fs) (nullability_of t)
held_null_ok (raw_struct b) _ t h = refl

pub dynamic3-fits : (op : CompareOperator) (default : Bool) (v : Val) (held : Option Typed) (slot : Ty) (n : Nullability) → null_ok v n ≡ true → held_fits held slot ≡ true
    → fits_but_for_faults (dynamic3 op default v (option_map value_of held)) (bool_ty (union n (nullability_of slot))) ≡ true
dynamic3-fits op default v None slot n a h = default-fits default v (union n (nullability_of slot))
dynamic3-fits op default v (Some s) slot n a h =
    let parts = and_parts (alike s.ty slot) (fits s.value s.ty && null_allowed s.value slot) h in
    let more = and_parts (fits s.value s.ty) (null_allowed s.value slot) parts.1 in
    compare3-fits op v (value_of s) n (nullability_of slot) a (held_null_ok s.value s.ty slot more.1)

-- a raw value of a type stands for a value of the type
pub valued-fits : (r : Raw) (t : Ty) → fits r t ≡ true → val_fits (valued r t) t ≡ true
valued-fits r t h = val_fits_valued r t h

mutual
  unfolding val_fits fits_but_for_faults

  -- a value of a type fits it but for faults
  pub fits-but_for_faults : (v : Val) (t : Ty) → val_fits v t ≡ true → fits_but_for_faults v t ≡ true
  fits-but_for_faults (list_val xs) (list_ty e n) h = vals_fit-but_for_faults xs e h
  fits-but_for_faults (list_val xs) _ h = h
  fits-but_for_faults (struct_val ms) (struct_ty fs n) h = members_fit-but_for_faults ms fs h
  fits-but_for_faults (struct_val ms) _ h = h
  fits-but_for_faults fault t h = let no : ⊥ = cc in absurd no
  fits-but_for_faults _ t h = h

  vals_fit-but_for_faults : (xs : Vals) (t : Ty) → vals_fit xs t ≡ true → vals_fit_but_for_faults xs t ≡ true
  vals_fit-but_for_faults no_vals t h = refl
  vals_fit-but_for_faults (val x xs) t h =
      let parts = and_parts (val_fits x t) (vals_fit xs t) h in
      and_from (fits_but_for_faults x t) (vals_fit_but_for_faults xs t) (fits-but_for_faults x t parts.0) (vals_fit-but_for_faults xs t parts.1)

  members_fit-but_for_faults : (ms : Members) (fs : Fields) → members_fit ms fs ≡ true → members_fit_but_for_faults ms fs ≡ true
  members_fit-but_for_faults no_members no_fields h = refl
  members_fit-but_for_faults (member f x ms) (field g t fs) h =
      let parts = and_parts _ (val_fits x t && members_fit ms fs) h in
      let more = and_parts (val_fits x t) (members_fit ms fs) parts.1 in
      and_from _ (fits_but_for_faults x t && members_fit_but_for_faults ms fs) parts.0
      (and_from (fits_but_for_faults x t) (members_fit_but_for_faults ms fs) (fits-but_for_faults x t more.0) (members_fit-but_for_faults ms fs more.1))
  members_fit-but_for_faults _ _ h = let no : ⊥ = cc in absurd no
