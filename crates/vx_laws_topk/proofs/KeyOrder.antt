-- How keys of one plain type stand: none before its equal, and what is not before what is not before a third isn't before that.
use Rattle.std.proofs.Common.{◌≡◌, refl, ap, sym, ◌∙◌, Bool, true, false, not, Some, subst, ⊎_elim}
use Rattle.std.specs.declared.cmp.Ordering.{Ordering}
use Rattle.std.specs.declared.cmp.Ordering.TheVariants.{Less, Equal, Greater}
use Rattle.std.specs.Ordering.{ordering_reverse}
use Rattle.std.proofs.lemmas.Bool.{cases_Bool, true_from_ne_false}
use Rattle.vx_dtype.specs.declared.CompareOperator.{CompareOperator}
use Rattle.vx_dtype.specs.declared.CompareOperator.TheVariants.{Gte, Lte}
use Rattle.vx_dtype.specs.Types.{Ty}
use Rattle.vx_dtype.specs.TypeRules.{is_plain}
use Rattle.vx_dtype.specs.Values.{Val, null_val, bool_val, int_val, text_val, list_val, struct_val, fault}
use Rattle.vx_dtype.specs.Fits.{val_fits}
use Rattle.vx_dtype.specs.Logic.{is_null_val}
use Rattle.vx_dtype.specs.Order.{order, meets, compares}
use Rattle.vx_dtype.proofs.DistinctLemmas.{not_found}
use Rattle.vx_laws.proofs.Comparing.{order-swap, reversed}
use Rattle.vx_laws_scan.proofs.Ordered.{compares-order, compares-stands}
use Rattle.vx_laws_stats.proofs.Extremes.{is_of, is_null, known_part, Standing, standing, IsOrder, lte_is_order, gte_is_order}
use Rattle.vx_laws_topk.specs.TopRows.{key_operator, stands_before}

-- a key that isn't null stands before another by comparison, and before null
pub before-known : (d : Bool) (v w : Val) → is_null_val v ≡ false → is_null_val w ≡ false → stands_before d v w ≡ compares (key_operator d) v w
before-known d null_val w h k = let no : ⊥ = cc in absurd no
before-known d (bool_val a) null_val h k = let no : ⊥ = cc in absurd no
before-known d (int_val p a) null_val h k = let no : ⊥ = cc in absurd no
before-known d (text_val a) null_val h k = let no : ⊥ = cc in absurd no
before-known d (list_val a) null_val h k = let no : ⊥ = cc in absurd no
before-known d (struct_val a) null_val h k = let no : ⊥ = cc in absurd no
before-known d fault null_val h k = let no : ⊥ = cc in absurd no
before-known d _ _ h k = refl

before-null : (d : Bool) (v : Val) → is_null_val v ≡ false → stands_before d v null_val ≡ true
before-null d null_val h = let no : ⊥ = cc in absurd no
before-null d _ h = refl

-- where one stands before another, neither of both the other way round
turned : (d : Bool) (o : Ordering) → meets (key_operator d) o ≡ true → meets (key_operator d) (ordering_reverse o) ≡ false
turned true Greater h = refl
turned true Less h = let no : ⊥ = cc in absurd no
turned true Equal h = let no : ⊥ = cc in absurd no
turned false Less h = refl
turned false Greater h = let no : ⊥ = cc in absurd no
turned false Equal h = let no : ⊥ = cc in absurd no

compares-apart : (d : Bool) (v w : Val) → compares (key_operator d) v w ≡ true → compares (key_operator d) w v ≡ false
compares-apart d v w h =
    let a = compares-stands (key_operator d) v w h in
    let back : order w v ≡ Some (ordering_reverse a.stand) = order-swap w v ∙ ap reversed a.is in
    compares-order (key_operator d) w v (ordering_reverse a.stand) back ∙ turned d a.stand a.meeting

pub before-apart : (d : Bool) (v w : Val) → stands_before d v w ≡ true → stands_before d w v ≡ false
before-apart d v w h =
    ⊎_elim (λ (a : is_null_val v ≡ true).
    let no : stands_before d null_val w ≡ true = subst (λ (z : Val). stands_before d z w ≡ true) (is_null v a) h in
    let never : ⊥ = cc in absurd never)
    (λ (a : is_null_val v ≡ false).
    ⊎_elim (λ (b : is_null_val w ≡ true). ap (λ (z : Val). stands_before d z v) (is_null w b))
    (λ (b : is_null_val w ≡ false).
    before-known d w v b a ∙ compares-apart d v w (sym (before-known d v w a b) ∙ h))
    (cases_Bool (is_null_val w)))
    (cases_Bool (is_null_val v))

pub before-itself : (d : Bool) (v : Val) → stands_before d v v ≡ false
before-itself d v =
    ⊎_elim (λ (a : stands_before d v v ≡ true). before-apart d v v a) (λ (a : stands_before d v v ≡ false). a) (cases_Bool (stands_before d v v))

-- the comparison that holds where a key doesn't stand before another
abbrev rest_operator : Bool → CompareOperator
rest_operator true = Lte
rest_operator false = Gte

rest_is_order : (d : Bool) → IsOrder (rest_operator d)
rest_is_order true = lte_is_order
rest_is_order false = gte_is_order

rest-meets : (d : Bool) (o : Ordering) → meets (rest_operator d) o ≡ not (meets (key_operator d) o)
rest-meets true Less = refl
rest-meets true Equal = refl
rest-meets true Greater = refl
rest-meets false Less = refl
rest-meets false Equal = refl
rest-meets false Greater = refl

rest-compares : (d : Bool) (x y : Val) → Standing x y → compares (rest_operator d) x y ≡ not (compares (key_operator d) x y)
rest-compares d x y s =
    compares-order (rest_operator d) x y s.stand s.is ∙ rest-meets d s.stand ∙ sym (ap not (compares-order (key_operator d) x y s.stand s.is))

module _ (d : Bool) (t : Ty) (plain : is_plain t ≡ true) where
  stand : (x y : Val) → is_of t x ≡ true → is_of t y ≡ true → is_null_val x ≡ false → is_null_val y ≡ false → Standing x y
  stand x y h k a b = standing t x y plain (known_part (is_null_val x) (val_fits x t) h a) a (known_part (is_null_val y) (val_fits y t) k b) b

  known-chain : (x y z : Val) → Standing x y → Standing y z → Standing x z → compares (key_operator d) x y ≡ false → compares (key_operator d) y z ≡ false
      → compares (key_operator d) x z ≡ false
  known-chain x y z a b c h k =
      not_found (compares (key_operator d) x z)
      (sym (rest-compares d x z c) ∙ (rest_is_order d).chain x y z (rest-compares d x y a ∙ ap not h) (rest-compares d y z b ∙ ap not k))

  -- a key that isn't before a second, which isn't before a third, isn't before the third
  pub not_before-chain : (x y z : Val) → is_of t x ≡ true → is_of t y ≡ true → is_of t z ≡ true
      → stands_before d x y ≡ false → stands_before d y z ≡ false → stands_before d x z ≡ false
  not_before-chain x y z fx fy fz h k =
      ⊎_elim (λ (a : is_null_val x ≡ true). ap (λ (w : Val). stands_before d w z) (is_null x a))
      (λ (a : is_null_val x ≡ false).
      let b = not-null x y a h in
      let c = not-null y z b k in
      before-known d x z a c
      ∙ known-chain x y z (stand x y fx fy a b) (stand y z fy fz b c) (stand x z fx fz a c)
      (sym (before-known d x y a b) ∙ h) (sym (before-known d y z b c) ∙ k))
      (cases_Bool (is_null_val x))
    where
      not-null : (v w : Val) → is_null_val v ≡ false → stands_before d v w ≡ false → is_null_val w ≡ false
      not-null v w a h =
          ⊎_elim (λ (b : is_null_val w ≡ true).
          let yes : stands_before d v w ≡ true = ap (stands_before d v) (is_null w b) ∙ before-null d v a in
          let no : ⊥ = cc in absurd no)
          (λ (b : is_null_val w ≡ false). b) (cases_Bool (is_null_val w))

  -- what stands before a key that stands before a third stands before the third
  pub before-chain : (x y z : Val) → is_of t x ≡ true → is_of t y ≡ true → is_of t z ≡ true
      → stands_before d x y ≡ true → stands_before d y z ≡ true → stands_before d x z ≡ true
  before-chain x y z fx fy fz h k =
      true_from_ne_false (stands_before d x z)
      (λ n. let back = not_before-chain y x z fy fx fz (before-apart d x y h) n in let no : ⊥ = cc in no)
