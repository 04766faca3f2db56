-- That the rules at one row give no fault where their operands fit and are none.
use Rattle.std.proofs.Common.{◌≡◌, refl, sym, ◌∙◌, Bool, true, false, cond, ◌&&◌, Option, Some, None, subst}
use Rattle.std.specs.Prelude.{is_some, option_map}
use Rattle.std.specs.Str.{bytes_eq}
use Rattle.std.proofs.lemmas.Bool.{and_parts, or_from}
use Rattle.vx_dtype.specs.declared.PType.{PType}
use Rattle.vx_dtype.specs.declared.Nullability.{Nullability}
use Rattle.vx_dtype.specs.declared.CompareOperator.{CompareOperator}
use Rattle.vx_dtype.specs.declared.BetweenOptions.{BetweenOptions}
use Rattle.vx_dtype.specs.Types.{Ty, bool_ty, int_ty, text_ty, list_ty, struct_ty}
use Rattle.vx_dtype.specs.TypeRules.{alike, is_plain, nullability_of, union}
use Rattle.vx_dtype.specs.Values.{Val, null_val, bool_val, int_val, text_val, list_val, struct_val, fault, Vals, no_vals, val, Members, no_members, member, Typed, value_of}
use Rattle.vx_dtype.specs.Fits.{fits, val_fits, vals_fit, members_fit, fits_but_for_faults, holds_fault, some_holds_fault, member_holds_fault}
use Rattle.vx_dtype.specs.Types.{Fields, no_fields, field}
use Rattle.vx_dtype.specs.Logic.{Tri, holds, fails, unknown, broken, tri, truth, and_tri, or_tri, not_tri, and3, or3, not3, is_null3}
use Rattle.vx_dtype.specs.Order.{compare3, between3, bound_operator, swapped_comparison}
use Rattle.vx_dtype.specs.Like.{like3}
use Rattle.vx_dtype.specs.Lists.{contains3}
use Rattle.vx_semantics.specs.Typing.{equal_plain}
use Rattle.vx_semantics.specs.Meaning.{default_answer, dynamic3}
use Rattle.vx_semantics.specs.Breaks.{Cause, is_fault, cause_where}
use Rattle.vx_semantics.specs.Slots.{null_allowed, held_fits}
use Rattle.vx_laws.proofs.Comparing.{compare3-swap}
use Rattle.vx_laws.proofs.Fitting.{valued-fits, fits-but_for_faults, null_ok-fits, compare3-fits}
use Rattle.vx_laws.proofs.Preserving.{FitsButFaults}

-- not a fault itself, and without a fault at any depth
abbrev pub IsNoFault : Val → Type 0
IsNoFault v = is_fault v ≡ false

abbrev pub HoldsNoFault : Val → Type 0
HoldsNoFault v = holds_fault v ≡ false

pub HoldsNoFault-IsNoFault : (v : Val) → HoldsNoFault v → IsNoFault v
unfolding holds_fault
HoldsNoFault-IsNoFault fault h = h
HoldsNoFault-IsNoFault _ h = refl

-- a plain value that is no fault holds none
pub plain-HoldsNoFault : (v : Val) (u : Ty) → FitsButFaults v u → is_plain u ≡ true → IsNoFault v → HoldsNoFault v
unfolding holds_fault fits_but_for_faults
plain-HoldsNoFault (list_val xs) (list_ty e n) h p k = let no : ⊥ = cc in absurd no
plain-HoldsNoFault (list_val xs) _ h p k = let no : ⊥ = cc in absurd no
plain-HoldsNoFault (struct_val xs) (struct_ty fs n) h p k = let no : ⊥ = cc in absurd no
plain-HoldsNoFault (struct_val xs) _ h p k = let no : ⊥ = cc in absurd no
plain-HoldsNoFault fault u h p k = k
plain-HoldsNoFault _ u h p k = refl

mutual
  unfolding val_fits holds_fault

  -- a value of a type holds no fault
  pub fits-HoldsNoFault : (v : Val) (t : Ty) → val_fits v t ≡ true → HoldsNoFault v
  fits-HoldsNoFault (list_val xs) (list_ty e n) h = vals_fit-HoldsNoFault xs e h
  fits-HoldsNoFault (list_val xs) _ h = let no : ⊥ = cc in absurd no
  fits-HoldsNoFault (struct_val ms) (struct_ty fs n) h = members_fit-HoldsNoFault ms fs h
  fits-HoldsNoFault (struct_val ms) _ h = let no : ⊥ = cc in absurd no
  fits-HoldsNoFault fault t h = let no : ⊥ = cc in absurd no
  fits-HoldsNoFault _ t h = refl

  vals_fit-HoldsNoFault : (xs : Vals) (t : Ty) → vals_fit xs t ≡ true → some_holds_fault xs ≡ false
  vals_fit-HoldsNoFault no_vals t h = refl
  vals_fit-HoldsNoFault (val x xs) t h =
      let parts = and_parts (val_fits x t) (vals_fit xs t) h in
      or_from (holds_fault x) (some_holds_fault xs) (fits-HoldsNoFault x t parts.0) (vals_fit-HoldsNoFault xs t parts.1)

  members_fit-HoldsNoFault : (ms : Members) (fs : Fields) → members_fit ms fs ≡ true → member_holds_fault ms ≡ false
  members_fit-HoldsNoFault no_members no_fields h = refl
  members_fit-HoldsNoFault (member f x ms) (field g t fs) h =
      let parts = and_parts (bytes_eq f g) (val_fits x t && members_fit ms fs) h in
      let more = and_parts (val_fits x t) (members_fit ms fs) parts.1 in
      or_from (holds_fault x) (member_holds_fault ms) (fits-HoldsNoFault x t more.0) (members_fit-HoldsNoFault ms fs more.1)
  members_fit-HoldsNoFault _ _ h = let no : ⊥ = cc in absurd no

-- the kinds of types
pub data Kind : Type 0 where
  booleans : Kind
  integers : Kind
  texts : Kind
  lists : Kind
  structs : Kind

abbrev pub kind_of : Ty → Kind
kind_of (bool_ty n) = booleans
kind_of (int_ty p n) = integers
kind_of (text_ty n) = texts
kind_of (list_ty e n) = lists
kind_of (struct_ty fs n) = structs

pub alike-kind : (a b : Ty) → alike a b ≡ true → kind_of a ≡ kind_of b
unfolding alike
alike-kind (bool_ty n) (bool_ty m) h = refl
alike-kind (int_ty p n) (int_ty q m) h = refl
alike-kind (text_ty n) (text_ty m) h = refl
alike-kind (list_ty e n) (list_ty d m) h = refl
alike-kind (struct_ty e n) (struct_ty d m) h = refl
alike-kind _ _ h = let no : ⊥ = cc in absurd no

compare-booleans : (op : CompareOperator) (l r : Val) (n m : Nullability) → FitsButFaults l (bool_ty n) → FitsButFaults r (bool_ty m) → IsNoFault l → IsNoFault r → IsNoFault (compare3 op l r)
unfolding fits_but_for_faults
compare-booleans op null_val null_val n m h k i j = refl
compare-booleans op null_val (bool_val b) n m h k i j = refl
compare-booleans op (bool_val a) null_val n m h k i j = refl
compare-booleans op (bool_val a) (bool_val b) n m h k i j = refl
compare-booleans op _ _ n m h k i j = let no : ⊥ = cc in absurd no

compare-integers : (op : CompareOperator) (l r : Val) (p q : PType) (n m : Nullability) → FitsButFaults l (int_ty p n) → FitsButFaults r (int_ty q m) → IsNoFault l → IsNoFault r → IsNoFault (compare3 op l r)
unfolding fits_but_for_faults
compare-integers op null_val null_val p q n m h k i j = refl
compare-integers op null_val (int_val s b) p q n m h k i j = refl
compare-integers op (int_val o a) null_val p q n m h k i j = refl
compare-integers op (int_val o a) (int_val s b) p q n m h k i j = refl
compare-integers op _ _ p q n m h k i j = let no : ⊥ = cc in absurd no

compare-texts : (op : CompareOperator) (l r : Val) (n m : Nullability) → FitsButFaults l (text_ty n) → FitsButFaults r (text_ty m) → IsNoFault l → IsNoFault r → IsNoFault (compare3 op l r)
unfolding fits_but_for_faults
compare-texts op null_val null_val n m h k i j = refl
compare-texts op null_val (text_val b) n m h k i j = refl
compare-texts op (text_val a) null_val n m h k i j = refl
compare-texts op (text_val a) (text_val b) n m h k i j = refl
compare-texts op _ _ n m h k i j = let no : ⊥ = cc in absurd no

-- a comparison of two plain values of one kind is no fault
pub compare-IsNoFault : (op : CompareOperator) (l r : Val) (a b : Ty) → kind_of a ≡ kind_of b → is_plain a ≡ true → FitsButFaults l a → FitsButFaults r b → IsNoFault l → IsNoFault r → IsNoFault (compare3 op l r)
compare-IsNoFault op l r (bool_ty n) (bool_ty m) e p = compare-booleans op l r n m
compare-IsNoFault op l r (int_ty o n) (int_ty q m) e p = compare-integers op l r o q n m
compare-IsNoFault op l r (text_ty n) (text_ty m) e p = compare-texts op l r n m
compare-IsNoFault op l r _ _ e p = let no : ⊥ = cc in absurd no

pub equal_plain-parts : (a b : Ty) → equal_plain a b ≡ true → (kind_of a ≡ kind_of b) × (is_plain a ≡ true)
equal_plain-parts a b h = let parts = and_parts (alike a b) (is_plain a) h in (alike-kind a b parts.0, parts.1)

-- truth values that aren't broken
abbrev pub is_broken : Tri → Bool
is_broken broken = true
is_broken _ = false

truth-IsNoFault : (x : Tri) → is_broken x ≡ false → IsNoFault (truth x)
truth-IsNoFault broken h = h
truth-IsNoFault _ h = refl

tri-sound : (v : Val) (n : Nullability) → FitsButFaults v (bool_ty n) → IsNoFault v → is_broken (tri v) ≡ false
unfolding fits_but_for_faults
tri-sound null_val n h k = refl
tri-sound (bool_val true) n h k = refl
tri-sound (bool_val false) n h k = refl
tri-sound _ n h k = let no : ⊥ = cc in absurd no

pub and_tri-sound : (x y : Tri) → is_broken x ≡ false → is_broken y ≡ false → is_broken (and_tri x y) ≡ false
and_tri-sound holds holds h k = refl
and_tri-sound fails holds h k = refl
and_tri-sound unknown holds h k = refl
and_tri-sound holds broken h k = k
and_tri-sound fails broken h k = k
and_tri-sound unknown broken h k = k
and_tri-sound broken y h k = h
and_tri-sound _ _ h k = refl

pub or_tri-sound : (x y : Tri) → is_broken x ≡ false → is_broken y ≡ false → is_broken (or_tri x y) ≡ false
or_tri-sound holds holds h k = refl
or_tri-sound fails holds h k = refl
or_tri-sound unknown holds h k = refl
or_tri-sound holds broken h k = k
or_tri-sound fails broken h k = k
or_tri-sound unknown broken h k = k
or_tri-sound broken y h k = h
or_tri-sound _ _ h k = refl

pub not_tri-sound : (x : Tri) → is_broken x ≡ false → is_broken (not_tri x) ≡ false
not_tri-sound broken h = h
not_tri-sound _ h = refl

pub and-IsNoFault : (l r : Val) (n m : Nullability) → FitsButFaults l (bool_ty n) → FitsButFaults r (bool_ty m) → IsNoFault l → IsNoFault r → IsNoFault (and3 l r)
and-IsNoFault l r n m h k i j = truth-IsNoFault (and_tri (tri l) (tri r)) (and_tri-sound (tri l) (tri r) (tri-sound l n h i) (tri-sound r m k j))

pub or-IsNoFault : (l r : Val) (n m : Nullability) → FitsButFaults l (bool_ty n) → FitsButFaults r (bool_ty m) → IsNoFault l → IsNoFault r → IsNoFault (or3 l r)
or-IsNoFault l r n m h k i j = truth-IsNoFault (or_tri (tri l) (tri r)) (or_tri-sound (tri l) (tri r) (tri-sound l n h i) (tri-sound r m k j))

pub not-IsNoFault : (v : Val) (n : Nullability) → FitsButFaults v (bool_ty n) → IsNoFault v → IsNoFault (not3 v)
not-IsNoFault v n h k = truth-IsNoFault (not_tri (tri v)) (not_tri-sound (tri v) (tri-sound v n h k))

pub is_null-IsNoFault : (v : Val) → IsNoFault v → IsNoFault (is_null3 v)
is_null-IsNoFault fault h = h
is_null-IsNoFault null_val h = refl
is_null-IsNoFault _ h = refl

pub like-IsNoFault : (negated fold_case : Bool) (l r : Val) (n m : Nullability) → FitsButFaults l (text_ty n) → FitsButFaults r (text_ty m) → IsNoFault l → IsNoFault r → IsNoFault (like3 negated fold_case l r)
unfolding fits_but_for_faults
like-IsNoFault negated fold_case null_val null_val n m h k i j = refl
like-IsNoFault negated fold_case null_val (text_val b) n m h k i j = refl
like-IsNoFault negated fold_case (text_val a) null_val n m h k i j = refl
like-IsNoFault negated fold_case (text_val a) (text_val b) n m h k i j = refl
like-IsNoFault negated fold_case _ _ n m h k i j = let no : ⊥ = cc in absurd no

pub contains-IsNoFault : (l v : Val) (d : Ty) (n : Nullability) → FitsButFaults l (list_ty d n) → IsNoFault l → IsNoFault v → IsNoFault (contains3 l v)
unfolding fits_but_for_faults
contains-IsNoFault null_val fault d n h i j = j
contains-IsNoFault (list_val xs) fault d n h i j = j
contains-IsNoFault null_val v d n h i j = refl
contains-IsNoFault (list_val xs) null_val d n h i j = refl
contains-IsNoFault (list_val xs) v d n h i j = refl
contains-IsNoFault _ v d n h i j = let no : ⊥ = cc in absurd no

pub between-IsNoFault : (options : BetweenOptions) (v lower upper : Val) (a b c : Ty) → equal_plain a b ≡ true → equal_plain a c ≡ true → FitsButFaults v a → FitsButFaults lower b → FitsButFaults upper c → IsNoFault v → IsNoFault lower → IsNoFault upper
    → IsNoFault (between3 options v lower upper)
between-IsNoFault options v lower upper a b c e g h k j x y z =
    let lo = bound_operator options.lower_strict in
    let hi = bound_operator options.upper_strict in
    let p = equal_plain-parts a b e in
    let q = equal_plain-parts a c g in
    let low = subst (λ (w : Val). IsNoFault w) (sym (compare3-swap lo lower v)) (compare-IsNoFault (swapped_comparison lo) v lower a b p.0 p.1 h k x y) in
    let high = compare-IsNoFault hi v upper a c q.0 q.1 h j x z in
    and-IsNoFault (compare3 lo lower v) (compare3 hi v upper) (union (nullability_of b) (nullability_of a)) (union (nullability_of a) (nullability_of c))
    (compare3-fits lo lower v (nullability_of b) (nullability_of a) (null_ok-fits lower b k) (null_ok-fits v a h))
    (compare3-fits hi v upper (nullability_of a) (nullability_of c) (null_ok-fits v a h) (null_ok-fits upper c j)) low high

default-IsNoFault : (b : Bool) (v : Val) → IsNoFault v → IsNoFault (default_answer b v)
default-IsNoFault b fault h = h
default-IsNoFault b _ h = refl

pub dynamic-IsNoFault : (op : CompareOperator) (default : Bool) (v : Val) (held : Option Typed) (slot a : Ty) → equal_plain a slot ≡ true → held_fits held slot ≡ true → FitsButFaults v a → IsNoFault v
    → IsNoFault (dynamic3 op default v (option_map value_of held))
dynamic-IsNoFault op default v None slot a e h k i = default-IsNoFault default v i
dynamic-IsNoFault op default v (Some s) slot a e h k i =
    let parts = and_parts (alike s.ty slot) (fits s.value s.ty && null_allowed s.value slot) h in
    let more = and_parts (fits s.value s.ty) (null_allowed s.value slot) parts.1 in
    let p = equal_plain-parts a slot e in
    let is = valued-fits s.value s.ty more.0 in
    compare-IsNoFault op v (value_of s) a s.ty (p.0 ∙ sym (alike-kind s.ty slot parts.0)) p.1 k (fits-but_for_faults (value_of s) s.ty is) i (HoldsNoFault-IsNoFault (value_of s) (fits-HoldsNoFault (value_of s) s.ty is))

-- a node that doesn't break, and whose operands are no faults, is none
pub unbroken : (sound : Bool) (v : Val) (c : Cause) → is_some (cause_where sound v c) ≡ false → sound ≡ true → IsNoFault v
unbroken sound v c h e = by-test sound (is_fault v) e h
  where
    by-test : (a b : Bool) → a ≡ true → is_some (cond (a && b) (Some c) None) ≡ false → b ≡ false
    by-test true true i j = let no : ⊥ = cc in absurd no
    by-test true false i j = refl
    by-test false b i j = let no : ⊥ = cc in absurd no
