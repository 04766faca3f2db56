-- What known bounds say of the values within them.
use Rattle.std.proofs.Common.{◌≡◌, refl, sym, ◌∙◌, true, ◌||◌, Option, Some, None, subst, ◌⊎◌, ⊎_elim}
use Rattle.std.proofs.lemmas.Bool.{or_cases, and_parts}
use Rattle.vx_dtype.specs.declared.CompareOperator.{CompareOperator}
use Rattle.vx_dtype.specs.declared.CompareOperator.TheVariants.{Eq, NotEq, Gt, Gte, Lt, Lte}
use Rattle.vx_dtype.specs.declared.Stat.{Stat}
use Rattle.vx_dtype.specs.declared.Stat.TheVariants.{Min, Max}
use Rattle.vx_dtype.specs.Values.{Val, null_val, bool_val, int_val, text_val, list_val, struct_val, fault, Vals, no_vals, val}
use Rattle.vx_dtype.specs.Lists.{has_element}
use Rattle.vx_dtype.specs.Order.{compares}
use Rattle.vx_semantics.specs.Pruning.{known, known_compare, comparison_ruled_out, all_outside}
use Rattle.vx_laws_scan.proofs.Ordered.{IsAtMost, IsAtMost-trans, IsAtMost-from_gte, IsBelow-from_gt, IsAtMost-from_eq, IsAtMost-from_eq_back, IsBelow-IsAtMost-apart, IsAtMost-both-apart, is_ordered, IsAtMost-itself, ordered-left, ordered-right}

-- a plain value lies between the bounds that are known
pub record IsWithin (bound : Stat → Option Val) (v : Val) : Type 0 where
  pub least : (m : Val) → bound Min ≡ Some m → is_ordered v ≡ true → IsAtMost m v
  pub greatest : (m : Val) → bound Max ≡ Some m → is_ordered v ≡ true → IsAtMost v m

-- two known values that compare so
pub record KnownCompared (op : CompareOperator) (a b : Option Val) : Type 0 where
  pub left : Val
  pub right : Val
  pub is_left : a ≡ Some left
  pub is_right : b ≡ Some right
  pub compared : compares op left right ≡ true

pub known_compare-ok : (op : CompareOperator) (a b : Option Val) → known_compare op a b ≡ true → KnownCompared op a b
known_compare-ok op (Some x) (Some y) h = record { left = x; right = y; is_left = refl; is_right = refl; compared = h }
known_compare-ok op (Some x) None h = let no : ⊥ = cc in absurd no
known_compare-ok op None b h = let no : ⊥ = cc in absurd no

-- a comparison that the bounds rule out is not true of values within them
pub ruled_out_apart : (op : CompareOperator) (l r : Stat → Option Val) (v w : Val) → IsWithin l v → IsWithin r w → comparison_ruled_out op l r ≡ true → compares op v w ≡ true → ⊥
ruled_out_apart Gt l r v w i j h c =
    let k = known_compare-ok Lte (l Max) (r Min) h in
    let p = ordered-left Gt v w c in
    let q = ordered-right Gt v w c in
    IsBelow-IsAtMost-apart w v (IsBelow-from_gt v w c) (IsAtMost-trans v k.left w (i.greatest k.left k.is_left p) (IsAtMost-trans k.left k.right w k.compared (j.least k.right k.is_right q)))
ruled_out_apart Gte l r v w i j h c =
    let k = known_compare-ok Lt (l Max) (r Min) h in
    let p = ordered-left Gte v w c in
    let q = ordered-right Gte v w c in
    IsBelow-IsAtMost-apart k.left k.right k.compared (IsAtMost-trans k.right w k.left (j.least k.right k.is_right q) (IsAtMost-trans w v k.left (IsAtMost-from_gte v w c) (i.greatest k.left k.is_left p)))
ruled_out_apart Lt l r v w i j h c =
    let k = known_compare-ok Gte (l Min) (r Max) h in
    let p = ordered-left Lt v w c in
    let q = ordered-right Lt v w c in
    IsBelow-IsAtMost-apart v w c (IsAtMost-trans w k.right v (j.greatest k.right k.is_right q) (IsAtMost-trans k.right k.left v (IsAtMost-from_gte k.left k.right k.compared) (i.least k.left k.is_left p)))
ruled_out_apart Lte l r v w i j h c =
    let k = known_compare-ok Gt (l Min) (r Max) h in
    let p = ordered-left Lte v w c in
    let q = ordered-right Lte v w c in
    IsBelow-IsAtMost-apart k.right k.left (IsBelow-from_gt k.left k.right k.compared) (IsAtMost-trans k.left v k.right (i.least k.left k.is_left p) (IsAtMost-trans v w k.right c (j.greatest k.right k.is_right q)))
ruled_out_apart Eq l r v w i j h c =
    let p = ordered-left Eq v w c in
    let q = ordered-right Eq v w c in
    ⊎_elim
    (λ (a : known_compare Gt (l Min) (r Max) ≡ true).
    let k = known_compare-ok Gt (l Min) (r Max) a in
    IsBelow-IsAtMost-apart k.right k.left (IsBelow-from_gt k.left k.right k.compared) (IsAtMost-trans k.left v k.right (i.least k.left k.is_left p) (IsAtMost-trans v w k.right (IsAtMost-from_eq v w c) (j.greatest k.right k.is_right q))))
    (λ (a : known_compare Gt (r Min) (l Max) ≡ true).
    let k = known_compare-ok Gt (r Min) (l Max) a in
    IsBelow-IsAtMost-apart k.right k.left (IsBelow-from_gt k.left k.right k.compared) (IsAtMost-trans k.left w k.right (j.least k.left k.is_left q) (IsAtMost-trans w v k.right (IsAtMost-from_eq_back v w c) (i.greatest k.right k.is_right p))))
    (or_cases (known_compare Gt (l Min) (r Max)) (known_compare Gt (r Min) (l Max)) h)
ruled_out_apart NotEq l r v w i j h c =
    let p = ordered-left NotEq v w c in
    let q = ordered-right NotEq v w c in
    let parts = and_parts (known_compare Eq (l Min) (r Max)) (known_compare Eq (l Max) (r Min)) h in
    let k = known_compare-ok Eq (l Min) (r Max) parts.0 in
    let m = known_compare-ok Eq (l Max) (r Min) parts.1 in
    IsAtMost-both-apart v w
    (IsAtMost-trans v m.left w (i.greatest m.left m.is_left p) (IsAtMost-trans m.left m.right w (IsAtMost-from_eq m.left m.right m.compared) (j.least m.right m.is_right q)))
    (IsAtMost-trans w k.right v (j.greatest k.right k.is_right q) (IsAtMost-trans k.right k.left v (IsAtMost-from_eq_back k.left k.right k.compared) (i.least k.left k.is_left p))) c

-- a value that is known is itself
pub known-same : (v m : Val) → known v ≡ Some m → m ≡ v
known-same null_val m h = let no : ⊥ = cc in absurd no
known-same (bool_val b) m h = cc
known-same (int_val p b) m h = cc
known-same (text_val b) m h = cc
known-same (list_val b) m h = cc
known-same (struct_val b) m h = cc
known-same fault m h = cc

-- a value is within the bounds that are itself
pub itself-within : (bound : Stat → Option Val) (v : Val) → bound Min ≡ known v → bound Max ≡ known v → IsWithin bound v
itself-within bound v e g = record {
  least = λ m h o. subst (λ (z : Val). IsAtMost z v) (sym (known-same v m (sym e ∙ h))) (IsAtMost-itself v o);
  greatest = λ m h o. subst (λ (z : Val). IsAtMost v z) (sym (known-same v m (sym g ∙ h))) (IsAtMost-itself v o);
}

-- no element equals a value where each lies outside of bounds between which the value lies
pub outside-apart : (xs : Vals) (bound : Stat → Option Val) (v : Val) → IsWithin bound v → all_outside xs (bound Min) (bound Max) ≡ true → has_element xs v ≡ true → ⊥
outside-apart no_vals bound v i h c = cc
outside-apart (val x xs) bound v i h c =
    let parts = and_parts (known_compare Lt (bound Max) (known x) || known_compare Gt (bound Min) (known x)) (all_outside xs (bound Min) (bound Max)) h in
    ⊎_elim
    (λ (e : compares Eq x v ≡ true). by-side e (or_cases (known_compare Lt (bound Max) (known x)) (known_compare Gt (bound Min) (known x)) parts.0))
    (λ (e : has_element xs v ≡ true). outside-apart xs bound v i parts.1 e)
    (or_cases (compares Eq x v) (has_element xs v) c)
  where
    by-side : compares Eq x v ≡ true → (known_compare Lt (bound Max) (known x) ≡ true) ⊎ (known_compare Gt (bound Min) (known x) ≡ true) → ⊥
    by-side e s =
        let p = ordered-right Eq x v e in
        ⊎_elim
        (λ (a : known_compare Lt (bound Max) (known x) ≡ true).
        let k = known_compare-ok Lt (bound Max) (known x) a in
        let same = known-same x k.right k.is_right in
        IsBelow-IsAtMost-apart k.left k.right k.compared (subst (λ (z : Val). IsAtMost z k.left) (sym same) (IsAtMost-trans x v k.left (IsAtMost-from_eq x v e) (i.greatest k.left k.is_left p))))
        (λ (a : known_compare Gt (bound Min) (known x) ≡ true).
        let k = known_compare-ok Gt (bound Min) (known x) a in
        let same = known-same x k.right k.is_right in
        IsBelow-IsAtMost-apart k.right k.left (IsBelow-from_gt k.left k.right k.compared) (subst (λ (z : Val). IsAtMost k.left z) (sym same) (IsAtMost-trans k.left v x (i.least k.left k.is_left p) (IsAtMost-from_eq_back x v e))))
        s
