-- A rewrite that puts 1 for 0 on the way down does so in the whole tree.
use Rattle.std.proofs.Common.{◌≡◌, ℕ, zero, suc, List, [], ◌∷◌, ◌++◌, Bool, true, false, ◌||◌, cond, map, refl, ap, sym, ◌∙◌, subst, append_assoc}
use Rattle.std.specs.Prelude.{◌==◌, Ok, Err, IfOk, MatchBool}
use Rattle.std.specs.List.{list_any}
use Rattle.vx_traversal.specs.declared.errors.WalkError.{WalkError}
use Rattle.vx_traversal.specs.declared.order.TraversalOrder.{TraversalOrder}
use Rattle.vx_traversal.specs.declared.order.TraversalOrder.TheVariants.{Continue}
use Rattle.vx_traversal.specs.declared.transform.Transformed.{Transformed}
use Rattle.vx_base_tests.specs.Numbers.{NumberTree, number, NumberTrees, no_trees, tree_before, list_of_trees, trees_of_list, number_at, trees_below, number_height, number_with, renumbered}
use Rattle.vx_traversal.specs.Rewrites.{Walk, RewriteStep, MapsInTurn, MapsChildren, Rebuilds, UnlessStopped, AfterOrder, FromOrder, RewritesBelow, GoesUp, marked, none_yet, with_one}
use Rattle.vx_base_tests.specs.Ones.{one_for_zero, top_with_one, with_ones, all_with_ones, HasOnes}
use Rattle.vx_base_tests.specs.Zeros.{holds_zero, one_holds_zero}
use Rattle.vx_traversal.proofs.RewriteLemmas.{or-false}

-- a tree is as high with another number at its top
pub renumbered_height : (m : ℕ) (t : NumberTree) → number_height (renumbered m t) ≡ number_height t
renumbered_height m (number n ts) = refl

left_false : (a b : Bool) → (a || b) ≡ false → a ≡ false
left_false true b e = e
left_false false b e = refl

right_false : (a b : Bool) → (a || b) ≡ false → b ≡ false
right_false true b e = absurd (cc)
right_false false b e = e

same_number : (b : Bool) (n : ℕ) → b ≡ false → cond b 1 n ≡ n
same_number true n e = absurd (cc)
same_number false n e = refl

mutual
  -- a tree without a 0 stays
  kept : (t : NumberTree) → holds_zero t ≡ false → with_ones t ≡ t
  kept (number n ts) e =
      λ i. number (same_number (n == 0) n (left_false (n == 0) (one_holds_zero ts) e) i) (all_kept ts (right_false (n == 0) (one_holds_zero ts) e) i)

  all_kept : (ts : NumberTrees) → one_holds_zero ts ≡ false → all_with_ones ts ≡ ts
  all_kept no_trees e = refl
  all_kept (tree_before t ts) e =
      λ i. tree_before (kept t (left_false (holds_zero t) (one_holds_zero ts) e) i) (all_kept ts (right_false (holds_zero t) (one_holds_zero ts) e) i)

ones_listed : (ts : NumberTrees) → trees_of_list (map with_ones (list_of_trees ts)) ≡ all_with_ones ts
ones_listed no_trees = refl
ones_listed (tree_before t ts) = ap (λ us. tree_before (with_ones t) us) (ones_listed ts)

zeros_listed : (ts : NumberTrees) → list_any holds_zero (list_of_trees ts) ≡ one_holds_zero ts
zeros_listed no_trees = refl
zeros_listed (tree_before t ts) = ap (λ held. holds_zero t || held) (zeros_listed ts)

-- the number with these trees, as their list has it
with_listed : (n : ℕ) (ts : NumberTrees) → number_with (number n ts) (map with_ones (list_of_trees ts)) ≡ number n (all_with_ones ts)
with_listed n ts = ap (number n) (ones_listed ts)

append_nil : {A : Type 0} (xs : List A) → xs ++ [] ≡ xs
append_nil [] = refl
append_nil (x ∷ xs) = ap (λ ys. x ∷ ys) (append_nil xs)

or_assoc : (a b c : Bool) → ((a || b) || c) ≡ (a || (b || c))
or_assoc true b c = refl
or_assoc false b c = refl

if_error : {T E : Type 0} (r : Walk T E) (e : WalkError E) (Q : T → Type 0) → r ≡ Err e → IfOk r Q
if_error {T} {E} r e Q is = subst (λ (q : Walk T E). IfOk q Q) (sym is) tt

if_ok : {T E : Type 0} (r : Walk T E) (x : T) (Q : T → Type 0) → r ≡ Ok x → Q x → IfOk r Q
if_ok {T} {E} r x Q is holds = subst (λ (q : Walk T E). IfOk q Q) (sym is) holds

-- trees in order with their ones, after what was made so far
abbrev pub HaveOnes : Transformed (List NumberTree) → List NumberTree → Transformed (List NumberTree) → Type 0
HaveOnes so_far ns made = made ≡ record { value = so_far.value ++ map with_ones ns; order = Continue; changed = so_far.changed || list_any holds_zero ns }

none_more : (so_far : Transformed (List NumberTree)) → so_far.order ≡ Continue → HaveOnes so_far [] so_far
none_more so_far goes = λ i. record { value = sym (append_nil so_far.value) i; order = goes i; changed = sym (or-false so_far.changed) i }

one_more : (so_far : Transformed (List NumberTree)) (n : NumberTree) (ns : List NumberTree) (y : Transformed NumberTree) (made : Transformed (List NumberTree)) → HasOnes n y → HaveOnes (with_one so_far y) ns made → HaveOnes so_far (n ∷ ns) made
one_more so_far n ns y made is all =
    let given : HaveOnes (with_one so_far (record { value = with_ones n; order = Continue; changed = holds_zero n })) ns made = subst (λ z. HaveOnes (with_one so_far z) ns made) is all in
    given ∙ (λ i. record { value = append_assoc so_far.value (with_ones n ∷ []) (map with_ones ns) i; order = Continue; changed = or_assoc so_far.changed (holds_zero n) (list_any holds_zero ns) i })

-- the number with other trees below it
abbrev pub Rebuilt : NumberTree → List NumberTree → NumberTree → Type 0
Rebuilt t ts rebuilt = rebuilt ≡ number_with t ts

rebuilt_is : (m : ℕ) (ts : NumberTrees) (rebuilt : NumberTree) (b : Bool) → b ≡ one_holds_zero ts →
    MatchBool b (Rebuilt (number m ts) (map with_ones (list_of_trees ts)) rebuilt) (rebuilt ≡ number m ts) → rebuilt ≡ number m (all_with_ones ts)
rebuilt_is m ts rebuilt true e is = is ∙ with_listed m ts
rebuilt_is m ts rebuilt false e is = is ∙ ap (number m) (sym (all_kept ts (sym e)))

-- the node with the ones of its children
abbrev pub BelowMade : ℕ → NumberTrees → Transformed NumberTree → Type 0
BelowMade m ts made = made ≡ record { value = number m (all_with_ones ts); order = Continue; changed = one_holds_zero ts }

abbrev ok : (E : Type 0) → Transformed NumberTree → Walk (Transformed NumberTree) E
ok E x = Ok x

ok_is : (E : Type 0) (x y : Transformed NumberTree) → ok E x ≡ Ok y → x ≡ y
ok_is E x y e = cc

module _ {S E : Type 0} where
  -- the steps of the rewriter
  abbrev pub OneDown : RewriteStep S NumberTree E
  OneDown s n r t = r ≡ Ok (record { value = top_with_one n; order = Continue; changed = number_at n == 0 })

  abbrev pub OneUp : RewriteStep S NumberTree E
  OneUp s n r t = r ≡ Ok (record { value = n; order = Continue; changed = false })

  -- the children in turn get their ones
  in_turn : (Each : RewriteStep S NumberTree E) → ((s : S) (n : NumberTree) (r : Walk (Transformed NumberTree) E) (t : S) → Each s n r t → IfOk r (HasOnes n)) →
      (ns : List NumberTree) (so_far : Transformed (List NumberTree)) → so_far.order ≡ Continue → (s : S) (r : Walk (Transformed (List NumberTree)) E) (t : S) → MapsInTurn Each so_far s ns r t → IfOk r (HaveOnes so_far ns)
  in_turn Each each [] so_far goes s r t (is, same) = if_ok r so_far (HaveOnes so_far []) is (none_more so_far goes)
  in_turn Each each (n ∷ ns) so_far goes s r t (Err e, u, step, (is, same)) = if_error r e (HaveOnes so_far (n ∷ ns)) is
  in_turn Each each (n ∷ ns) so_far goes s r t (Ok y, u, step, rest) =
      let taken : Each s n (Ok y) u = subst (λ (o : TraversalOrder). UnlessStopped Each o s n (Ok y) u) goes step in
      let is : HasOnes n y = each s n (Ok y) u taken in
      implied r (HaveOnes (with_one so_far y) ns) (HaveOnes so_far (n ∷ ns)) (λ made. one_more so_far n ns y made is) (in_turn Each each ns (with_one so_far y) (ap (λ z. z.order) is) u r t rest)
    where
      implied : {T : Type 0} (q : Walk T E) (P Q : T → Type 0) → ((x : T) → P x → Q x) → IfOk q P → IfOk q Q
      implied (Err e) P Q f h = tt
      implied (Ok x) P Q f h = f x h

  below_made : (Each : RewriteStep S NumberTree E) → ((s : S) (n : NumberTree) (r : Walk (Transformed NumberTree) E) (t : S) → Each s n r t → IfOk r (HasOnes n)) →
      (m : ℕ) (ts : NumberTrees) (s : S) (r : Walk (Transformed NumberTree) E) (t : S) → MapsChildren trees_below Rebuilt Each s (number m ts) r t → IfOk r (BelowMade m ts)
  below_made Each each m ts s r t (Err e, turns, is) = if_error r e (BelowMade m ts) is
  below_made Each each m ts s r t (Ok p, turns, (rebuilt, matched, is)) =
      let listed : HaveOnes none_yet (list_of_trees ts) p = in_turn Each each (list_of_trees ts) none_yet refl s (Ok p) t turns in
      let is_made : rebuilt ≡ number m (all_with_ones ts) =
      rebuilt_is m ts rebuilt (list_any holds_zero (list_of_trees ts)) (zeros_listed ts)
      (subst (λ (z : Transformed (List NumberTree)). MatchBool z.changed (Rebuilt (number m ts) z.value rebuilt) (rebuilt ≡ number m ts)) listed matched) in
      if_ok r (record { value = rebuilt; order = p.order; changed = p.changed }) (BelowMade m ts) is
      (λ i. record { value = is_made i; order = ap (λ z. z.order) listed i; changed = (ap (λ z. z.changed) listed ∙ zeros_listed ts) i })

  -- up after the children
  goes_up : (m : ℕ) (ts : NumberTrees) (y : Transformed NumberTree) (u : S) (r : Walk (Transformed NumberTree) E) (t : S) → BelowMade (one_for_zero m) ts y →
      AfterOrder trees_below Rebuilt OneDown OneUp y.order (m == 0) y u r t → IfOk r (HasOnes (number m ts))
  goes_up m ts y u r t is after =
      up_is (subst (λ (z : Transformed NumberTree). AfterOrder trees_below Rebuilt OneDown OneUp z.order (m == 0) z u r t) is after)
    where
      up_is : GoesUp OneUp ((m == 0) || one_holds_zero ts) u (with_ones (number m ts)) r t → IfOk r (HasOnes (number m ts))
      up_is (q, step, answers) =
          if_ok r (record { value = with_ones (number m ts); order = Continue; changed = ((m == 0) || one_holds_zero ts) || false }) (HasOnes (number m ts))
          (answers ∙ ap (marked ((m == 0) || one_holds_zero ts)) step)
          (λ i. record { value = with_ones (number m ts); order = Continue; changed = or-false ((m == 0) || one_holds_zero ts) i })

  -- after down: the children, and up
  after_down : (Each : RewriteStep S NumberTree E) → ((s : S) (n : NumberTree) (r : Walk (Transformed NumberTree) E) (t : S) → Each s n r t → IfOk r (HasOnes n)) →
      (m : ℕ) (ts : NumberTrees) (u : S) (r : Walk (Transformed NumberTree) E) (t : S) →
      FromOrder trees_below Rebuilt OneDown OneUp Each Continue (record { value = number (one_for_zero m) ts; order = Continue; changed = m == 0 }) u r t → IfOk r (HasOnes (number m ts))
  after_down Each each m ts u r t (Err e, v, mapped, (is, same)) = if_error r e (HasOnes (number m ts)) is
  after_down Each each m ts u r t (Ok y, v, mapped, rest) = goes_up m ts y v r t (below_made Each each (one_for_zero m) ts u (Ok y) v mapped) rest

  -- such a rewrite puts 1 in place of each 0
  pub gives-ones : (k : ℕ) (s : S) (n : NumberTree) (r : Walk (Transformed NumberTree) E) (t : S) → RewritesBelow trees_below Rebuilt OneDown OneUp k s n r t → IfOk r (HasOnes n)
  gives-ones zero s n r t w = absurd w
  gives-ones (suc k) s n r t (Err e, u, step, (is, same)) = if_error r e (HasOnes n) is
  gives-ones (suc k) s (number m ts) r t (Ok d, u, step, rest) =
      after_down (RewritesBelow trees_below Rebuilt OneDown OneUp k) (gives-ones k) m ts u r t
      (subst (λ (z : Transformed NumberTree). FromOrder trees_below Rebuilt OneDown OneUp (RewritesBelow trees_below Rebuilt OneDown OneUp k) z.order z u r t)
      (ok_is E d (record { value = number (one_for_zero m) ts; order = Continue; changed = m == 0 }) step) rest)
