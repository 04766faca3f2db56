-- The first of numbers by an order: in which grouping they are compared makes no difference, so a loop keeps the first of those that it has seen.
use Rattle.std.proofs.Common.{◌≡◌, ℕ, ◌+◌, ◌<◌, ◌≤◌, List, get_or, length, drop, Bool, true, false, cond, Option, Some, None, refl, ◌∙◌, sym, ap}
use Rattle.std.proofs.lemmas.Cmp.{int_cmp_total}
use Rattle.std.proofs.lemmas.List.{drop_more, drop_all}
use Rattle.std.specs.declared.cmp.Ordering.{Ordering}
use Rattle.std.specs.declared.cmp.Ordering.TheVariants.{Less, Equal, Greater}
use Rattle.std.specs.Ordering.{int_cmp, is_le, is_ge, ordering_reverse}
use Rattle.std.specs.Prelude.{ℤ}
use Rattle.vx_dtype.specs.declared.CompareOperator.{CompareOperator}
use Rattle.vx_dtype.specs.declared.CompareOperator.TheVariants.{Gte, Lte}
use Rattle.vx_dtype.specs.Order.{meets}
use Rattle.vx_numbers.specs.Bounds.{first_number, first_among}

-- ---- comparisons that go on from one number to the next
pub record IsChain (op : CompareOperator) : Type 0 where
  pub holds : (a b c : ℤ) → meets op (int_cmp a b) ≡ true → meets op (int_cmp b c) ≡ true → meets op (int_cmp a c) ≡ true
  pub fails : (a b c : ℤ) → meets op (int_cmp a b) ≡ false → meets op (int_cmp b c) ≡ false → meets op (int_cmp a c) ≡ false

-- how numbers stand, from how two pairs of them do
at_most : (a b c : ℤ) (x y : Ordering) → int_cmp a b ≡ x → int_cmp b c ≡ y → is_le x ≡ true → is_le y ≡ true → is_le (int_cmp a c) ≡ true
at_most a b c Less Less e f h k = ap is_le (int_cmp_total.trans a b c e f)
at_most a b c Equal y e f h k = ap is_le (int_cmp_total.congr a b c e ∙ f) ∙ k
at_most a b c Less Equal e f h k =
    let turned : int_cmp c b ≡ Equal = int_cmp_total.antisymm c b ∙ ap ordering_reverse f in
    ap is_le (int_cmp_total.antisymm a c ∙ ap ordering_reverse (int_cmp_total.congr c b a turned) ∙ sym (int_cmp_total.antisymm a b) ∙ e)
at_most a b c Greater y e f h k = let no : ⊥ = cc in absurd no
at_most a b c x Greater e f h k = let no : ⊥ = cc in absurd no

above : (a b c : ℤ) (x y : Ordering) → int_cmp a b ≡ x → int_cmp b c ≡ y → is_le x ≡ false → is_le y ≡ false → is_le (int_cmp a c) ≡ false
above a b c Greater Greater e f h k =
    let second : int_cmp c b ≡ Less = int_cmp_total.antisymm c b ∙ ap ordering_reverse f in
    let first : int_cmp b a ≡ Less = int_cmp_total.antisymm b a ∙ ap ordering_reverse e in
    ap is_le (int_cmp_total.antisymm a c ∙ ap ordering_reverse (int_cmp_total.trans c b a second first))
above a b c Less y e f h k = let no : ⊥ = cc in absurd no
above a b c Equal y e f h k = let no : ⊥ = cc in absurd no
above a b c x Less e f h k = let no : ⊥ = cc in absurd no
above a b c x Equal e f h k = let no : ⊥ = cc in absurd no

turned_over : (x : Ordering) → is_ge x ≡ is_le (ordering_reverse x)
turned_over Less = refl
turned_over Equal = refl
turned_over Greater = refl

swapped : (a b : ℤ) → is_ge (int_cmp a b) ≡ is_le (int_cmp b a)
swapped a b = turned_over (int_cmp a b) ∙ ap is_le (sym (int_cmp_total.antisymm b a))

pub lte_is_chain : IsChain Lte
lte_is_chain = record {
  holds = λ a b c h k. at_most a b c (int_cmp a b) (int_cmp b c) refl refl h k;
  fails = λ a b c h k. above a b c (int_cmp a b) (int_cmp b c) refl refl h k;
}

pub gte_is_chain : IsChain Gte
gte_is_chain = record {
  holds = λ a b c h k. swapped a c ∙ at_most c b a (int_cmp c b) (int_cmp b a) refl refl (sym (swapped b c) ∙ k) (sym (swapped a b) ∙ h);
  fails = λ a b c h k. swapped a c ∙ above c b a (int_cmp c b) (int_cmp b a) refl refl (sym (swapped b c) ∙ k) (sym (swapped a b) ∙ h);
}

-- ---- three numbers in two groupings
beside : {X Y : Type 0} (f : X → Y) (b : Bool) (x y : X) → f (cond b x y) ≡ cond b (f x) (f y)
beside f true x y = refl
beside f false x y = refl

either_grouping : {X : Type 0} (ab bc ac : Bool) (a b c : X) → (ab ≡ true → bc ≡ true → ac ≡ true) → (ab ≡ false → bc ≡ false → ac ≡ false)
    → cond ab (cond ac a c) (cond bc b c) ≡ cond bc (cond ab a b) (cond ac a c)
either_grouping true true true a b c h k = refl
either_grouping true true false a b c h k = let same : false ≡ true = h refl refl in let no : ⊥ = cc in absurd no
either_grouping true false ac a b c h k = refl
either_grouping false true ac a b c h k = refl
either_grouping false false true a b c h k = let same : true ≡ false = k refl refl in let no : ⊥ = cc in absurd no
either_grouping false false false a b c h k = refl

pub first_number-none : (op : CompareOperator) (a : Option ℤ) → first_number op a None ≡ a
first_number-none op None = refl
first_number-none op (Some a) = refl

first_number-assoc : (op : CompareOperator) → IsChain op → (a b c : Option ℤ)
    → first_number op (first_number op a b) c ≡ first_number op a (first_number op b c)
first_number-assoc op chain None b c = refl
first_number-assoc op chain (Some a) None c = refl
first_number-assoc op chain (Some a) (Some b) None = first_number-none op (cond (meets op (int_cmp a b)) (Some a) (Some b))
first_number-assoc op chain (Some a) (Some b) (Some c) =
    let ab : Bool = meets op (int_cmp a b) in
    let bc : Bool = meets op (int_cmp b c) in
    let ac : Bool = meets op (int_cmp a c) in
    beside (λ n. first_number op n (Some c)) ab (Some a) (Some b)
    ∙ either_grouping ab bc ac (Some a) (Some b) (Some c) (chain.holds a b c) (chain.fails a b c)
    ∙ sym (beside (first_number op (Some a)) bc (Some b) (Some c))

-- ---- a loop from the first place on
module _ (op : CompareOperator) (chain : IsChain op) (ns : List (Option ℤ)) where
  -- the first of those that were seen, and of those that are left, is the first of all
  pub first_more : (i : ℕ) (seen seen' whole : Option ℤ) → i < length ns → seen' ≡ first_number op seen (get_or ns i None)
      → first_number op seen (first_among op (drop i ns)) ≡ whole
      → first_number op seen' (first_among op (drop (i + 1) ns)) ≡ whole
  first_more i seen seen' whole h e before =
      let rest : Option ℤ = first_among op (drop (i + 1) ns) in
      ap (λ n. first_number op n rest) e
      ∙ first_number-assoc op chain seen (get_or ns i None) rest
      ∙ ap (λ l. first_number op seen (first_among op l)) (sym (drop_more ns i None h))
      ∙ before

  pub first_all : (i : ℕ) (seen whole : Option ℤ) → length ns ≤ i → first_number op seen (first_among op (drop i ns)) ≡ whole → seen ≡ whole
  first_all i seen whole h before =
      sym (first_number-none op seen) ∙ ap (λ l. first_number op seen (first_among op l)) (sym (drop_all i ns h)) ∙ before
