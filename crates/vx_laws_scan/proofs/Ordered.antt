-- The order of plain values: it is total within a kind, and comparisons follow it.
use Rattle.std.proofs.Common.{◌≡◌, refl, ap, sym, ◌∙◌, Bool, true, false, Option, Some, None, subst}
use Rattle.std.specs.Prelude.{is_some}
use Rattle.std.specs.declared.cmp.Ordering.{Ordering}
use Rattle.std.specs.declared.cmp.Ordering.TheVariants.{Less, Equal, Greater}
use Rattle.std.specs.Ordering.{nat_cmp, int_cmp, bool_cmp, ordering_reverse, is_gt}
use Rattle.std.specs.Cmp.{bool_cmp_total}
use Rattle.std.specs.Cmp.Lexicographic.{slice_cmp}
use Rattle.std.proofs.lemmas.Cmp.{int_cmp_total, nat_list_cmp_total, upto, tied_itself}
use Rattle.vx_dtype.specs.declared.CompareOperator.{CompareOperator}
use Rattle.vx_dtype.specs.declared.CompareOperator.TheVariants.{Eq, NotEq, Gt, Gte, Lt, Lte}
use Rattle.vx_dtype.specs.Values.{Val, null_val, bool_val, int_val, text_val, list_val, struct_val, fault}
use Rattle.vx_dtype.specs.Logic.{is_true_val}
use Rattle.vx_dtype.specs.Order.{order, meets, by_order, compare3, compares}
use Rattle.vx_laws.proofs.Comparing.{order-swap, reversed, compare3-swap}

-- how two values stand, where a comparison of them is true
pub record Stands (op : CompareOperator) (x y : Val) : Type 0 where
  pub stand : Ordering
  pub is : order x y ≡ Some stand
  pub meeting : meets op stand ≡ true

stands-by : (op : CompareOperator) (x y : Val) (o : Option Ordering) → order x y ≡ o → is_true_val (by_order op o) ≡ true → Stands op x y
stands-by op x y None e h = let no : ⊥ = cc in absurd no
stands-by op x y (Some o) e h = record { stand = o; is = e; meeting = is-true (meets op o) h }
  where
    is-true : (b : Bool) → is_true_val (bool_val b) ≡ true → b ≡ true
    is-true true k = refl
    is-true false k = let no : ⊥ = cc in absurd no

pub compares-stands : (op : CompareOperator) (x y : Val) → compares op x y ≡ true → Stands op x y
compares-stands op fault y h = let no : ⊥ = cc in absurd no
compares-stands op null_val fault h = let no : ⊥ = cc in absurd no
compares-stands op null_val y h = let no : ⊥ = cc in absurd no
compares-stands op (bool_val a) fault h = let no : ⊥ = cc in absurd no
compares-stands op (bool_val a) null_val h = let no : ⊥ = cc in absurd no
compares-stands op (bool_val a) y h = stands-by op (bool_val a) y (order (bool_val a) y) refl h
compares-stands op (int_val p a) fault h = let no : ⊥ = cc in absurd no
compares-stands op (int_val p a) null_val h = let no : ⊥ = cc in absurd no
compares-stands op (int_val p a) y h = stands-by op (int_val p a) y (order (int_val p a) y) refl h
compares-stands op (text_val a) fault h = let no : ⊥ = cc in absurd no
compares-stands op (text_val a) null_val h = let no : ⊥ = cc in absurd no
compares-stands op (text_val a) y h = stands-by op (text_val a) y (order (text_val a) y) refl h
compares-stands op (list_val a) fault h = let no : ⊥ = cc in absurd no
compares-stands op (list_val a) null_val h = let no : ⊥ = cc in absurd no
compares-stands op (list_val a) y h = let no : ⊥ = cc in absurd no
compares-stands op (struct_val a) fault h = let no : ⊥ = cc in absurd no
compares-stands op (struct_val a) null_val h = let no : ⊥ = cc in absurd no
compares-stands op (struct_val a) y h = let no : ⊥ = cc in absurd no

-- a comparison of values that stand so
compares-by : (op : CompareOperator) (o : Ordering) → is_true_val (bool_val (meets op o)) ≡ meets op o
compares-by op o = by-test (meets op o)
  where
    by-test : (b : Bool) → is_true_val (bool_val b) ≡ b
    by-test true = refl
    by-test false = refl

pub compares-order : (op : CompareOperator) (x y : Val) (o : Ordering) → order x y ≡ Some o → compares op x y ≡ meets op o
compares-order op (bool_val a) (bool_val b) o e =
    let same : bool_cmp a b ≡ o = cc in
    ap (λ (z : Ordering). is_true_val (bool_val (meets op z))) same ∙ compares-by op o
compares-order op (int_val p a) (int_val q b) o e =
    let same : int_cmp a b ≡ o = cc in
    ap (λ (z : Ordering). is_true_val (bool_val (meets op z))) same ∙ compares-by op o
compares-order op (text_val a) (text_val b) o e =
    let same : slice_cmp nat_cmp a b ≡ o = cc in
    ap (λ (z : Ordering). is_true_val (bool_val (meets op z))) same ∙ compares-by op o
compares-order op (bool_val a) _ o e = let no : ⊥ = cc in absurd no
compares-order op (int_val p a) _ o e = let no : ⊥ = cc in absurd no
compares-order op (text_val a) _ o e = let no : ⊥ = cc in absurd no
compares-order op _ y o e = let no : ⊥ = cc in absurd no

pub stands-compares : (op : CompareOperator) (x y : Val) (o : Ordering) → order x y ≡ Some o → meets op o ≡ true → compares op x y ≡ true
stands-compares op x y o e h = compares-order op x y o e ∙ h

-- at most
abbrev pub IsAtMost : Val → Val → Type 0
IsAtMost x y = compares Lte x y ≡ true

abbrev pub IsBelow : Val → Val → Type 0
IsBelow x y = compares Lt x y ≡ true

not-gt : (o : Ordering) → meets Lte o ≡ true → is_gt o ≡ false
not-gt Less h = refl
not-gt Equal h = refl
not-gt Greater h = let no : ⊥ = cc in absurd no

from-not-gt : (o : Ordering) → is_gt o ≡ false → meets Lte o ≡ true
from-not-gt Less h = refl
from-not-gt Equal h = refl
from-not-gt Greater h = let no : ⊥ = cc in absurd no

-- how the outer two of three values stand
pub record Outer (x z : Val) : Type 0 where
  pub stand : Ordering
  pub is : order x z ≡ Some stand
  pub least : is_gt stand ≡ false

outer : (x y z : Val) (o q : Ordering) → order x y ≡ Some o → order y z ≡ Some q → is_gt o ≡ false → is_gt q ≡ false → Outer x z
outer (bool_val a) (bool_val b) (bool_val c) o q e g h k =
    let first : bool_cmp a b ≡ o = cc in
    let second : bool_cmp b c ≡ q = cc in
    record { stand = bool_cmp a c; is = refl; least = upto bool_cmp_total a b c (ap is_gt first ∙ h) (ap is_gt second ∙ k) }
outer (int_val p a) (int_val r b) (int_val s c) o q e g h k =
    let first : int_cmp a b ≡ o = cc in
    let second : int_cmp b c ≡ q = cc in
    record { stand = int_cmp a c; is = refl; least = upto int_cmp_total a b c (ap is_gt first ∙ h) (ap is_gt second ∙ k) }
outer (text_val a) (text_val b) (text_val c) o q e g h k =
    let first : slice_cmp nat_cmp a b ≡ o = cc in
    let second : slice_cmp nat_cmp b c ≡ q = cc in
    record { stand = slice_cmp nat_cmp a c; is = refl; least = upto nat_list_cmp_total a b c (ap is_gt first ∙ h) (ap is_gt second ∙ k) }
outer (bool_val a) (bool_val b) _ o q e g h k = let no : ⊥ = cc in absurd no
outer (bool_val a) _ z o q e g h k = let no : ⊥ = cc in absurd no
outer (int_val p a) (int_val r b) _ o q e g h k = let no : ⊥ = cc in absurd no
outer (int_val p a) _ z o q e g h k = let no : ⊥ = cc in absurd no
outer (text_val a) (text_val b) _ o q e g h k = let no : ⊥ = cc in absurd no
outer (text_val a) _ z o q e g h k = let no : ⊥ = cc in absurd no
outer _ y z o q e g h k = let no : ⊥ = cc in absurd no

pub IsAtMost-trans : (x y z : Val) → IsAtMost x y → IsAtMost y z → IsAtMost x z
IsAtMost-trans x y z h k =
    let a = compares-stands Lte x y h in
    let b = compares-stands Lte y z k in
    let c = outer x y z a.stand b.stand a.is b.is (not-gt a.stand a.meeting) (not-gt b.stand b.meeting) in
    stands-compares Lte x z c.stand c.is (from-not-gt c.stand c.least)

-- a comparison the other way round
pub compares-swap : (op other : CompareOperator) (x y : Val) → compare3 op x y ≡ compare3 other y x → compares op x y ≡ true → compares other y x ≡ true
compares-swap op other x y e h = sym (ap is_true_val e) ∙ h

pub IsAtMost-from_gte : (x y : Val) → compares Gte x y ≡ true → IsAtMost y x
IsAtMost-from_gte x y h = compares-swap Gte Lte x y (compare3-swap Gte x y) h

pub IsBelow-from_gt : (x y : Val) → compares Gt x y ≡ true → IsBelow y x
IsBelow-from_gt x y h = compares-swap Gt Lt x y (compare3-swap Gt x y) h

pub IsAtMost-from_below : (x y : Val) → IsBelow x y → IsAtMost x y
IsAtMost-from_below x y h = let a = compares-stands Lt x y h in stands-compares Lte x y a.stand a.is (weaker a.stand a.meeting)
  where
    weaker : (o : Ordering) → meets Lt o ≡ true → meets Lte o ≡ true
    weaker Less k = refl
    weaker Equal k = let no : ⊥ = cc in absurd no
    weaker Greater k = let no : ⊥ = cc in absurd no

pub IsAtMost-from_eq : (x y : Val) → compares Eq x y ≡ true → IsAtMost x y
IsAtMost-from_eq x y h = let a = compares-stands Eq x y h in stands-compares Lte x y a.stand a.is (weaker a.stand a.meeting)
  where
    weaker : (o : Ordering) → meets Eq o ≡ true → meets Lte o ≡ true
    weaker Equal k = refl
    weaker Less k = let no : ⊥ = cc in absurd no
    weaker Greater k = let no : ⊥ = cc in absurd no

pub eq-swap : (x y : Val) → compares Eq x y ≡ true → compares Eq y x ≡ true
eq-swap x y h = compares-swap Eq Eq x y (compare3-swap Eq x y) h

pub IsAtMost-from_eq_back : (x y : Val) → compares Eq x y ≡ true → IsAtMost y x
IsAtMost-from_eq_back x y h = IsAtMost-from_eq y x (eq-swap x y h)

-- two ways that two values cannot stand at once
apart : (op other : CompareOperator) (x y : Val) → ((o : Ordering) → meets op o ≡ true → meets other (ordering_reverse o) ≡ true → ⊥) → compares op x y ≡ true → compares other y x ≡ true → ⊥
apart op other x y never h k =
    let a = compares-stands op x y h in
    let b = compares-stands other y x k in
    let back : order y x ≡ Some (ordering_reverse a.stand) = order-swap y x ∙ ap reversed a.is in
    let same : b.stand ≡ ordering_reverse a.stand = cc in
    never a.stand a.meeting (subst (λ (z : Ordering). meets other z ≡ true) same b.meeting)

pub IsBelow-IsAtMost-apart : (x y : Val) → IsBelow x y → IsAtMost y x → ⊥
IsBelow-IsAtMost-apart x y h k = apart Lt Lte x y never h k
  where
    never : (o : Ordering) → meets Lt o ≡ true → meets Lte (ordering_reverse o) ≡ true → ⊥
    never Less a b = cc
    never Equal a b = cc
    never Greater a b = cc

-- two values that are each at most the other do not differ
pub IsAtMost-both-apart : (x y : Val) → IsAtMost x y → IsAtMost y x → compares NotEq x y ≡ true → ⊥
IsAtMost-both-apart x y h k d =
    let a = compares-stands NotEq x y d in
    by-stand a.stand a.is a.meeting
  where
    by-stand : (o : Ordering) → order x y ≡ Some o → meets NotEq o ≡ true → ⊥
    by-stand Less e m = IsBelow-IsAtMost-apart x y (stands-compares Lt x y Less e refl) k
    by-stand Equal e m = cc
    by-stand Greater e m = IsBelow-IsAtMost-apart y x (IsBelow-from_gt x y (stands-compares Gt x y Greater e refl)) h

-- a value has an order with itself, as plain values have
abbrev pub is_ordered : Val → Bool
is_ordered v = is_some (order v v)

pub IsAtMost-itself : (v : Val) → is_ordered v ≡ true → IsAtMost v v
IsAtMost-itself (bool_val b) h = stands-compares Lte (bool_val b) (bool_val b) Equal (ap Some (tied_itself bool_cmp_total b)) refl
IsAtMost-itself (int_val p b) h = stands-compares Lte (int_val p b) (int_val p b) Equal (ap Some (tied_itself int_cmp_total b)) refl
IsAtMost-itself (text_val b) h = stands-compares Lte (text_val b) (text_val b) Equal (ap Some (tied_itself nat_list_cmp_total b)) refl
IsAtMost-itself _ h = let no : ⊥ = cc in absurd no

pub ordered-left : (op : CompareOperator) (x y : Val) → compares op x y ≡ true → is_ordered x ≡ true
ordered-left op x y h = let a = compares-stands op x y h in by-value x y a.stand a.is
  where
    by-value : (x y : Val) (o : Ordering) → order x y ≡ Some o → is_ordered x ≡ true
    by-value (bool_val a) y o e = refl
    by-value (int_val p a) y o e = refl
    by-value (text_val a) y o e = refl
    by-value _ y o e = let no : ⊥ = cc in absurd no

pub ordered-right : (op : CompareOperator) (x y : Val) → compares op x y ≡ true → is_ordered y ≡ true
ordered-right op x y h = let a = compares-stands op x y h in by-value x y a.stand a.is
  where
    by-value : (x y : Val) (o : Ordering) → order x y ≡ Some o → is_ordered y ≡ true
    by-value (bool_val a) (bool_val b) o e = refl
    by-value (int_val p a) (int_val q b) o e = refl
    by-value (text_val a) (text_val b) o e = refl
    by-value (bool_val a) _ o e = let no : ⊥ = cc in absurd no
    by-value (int_val p a) _ o e = let no : ⊥ = cc in absurd no
    by-value (text_val a) _ o e = let no : ⊥ = cc in absurd no
    by-value _ y o e = let no : ⊥ = cc in absurd no
