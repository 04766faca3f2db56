-- The path of a node, and what is left of it on the way up.
use Rattle.std.specs.Prelude.{◌≡◌, ℕ, zero, suc, ◌+◌, ◌-◌, ◌<◌, ◌≤◌, List, ◌∷◌, Result, Ok, Err, Contains, length, drop}
use Rattle.std.proofs.Common.{refl, sym, subst, ap, ◌∙◌, add-one, arith}
use Rattle.std.proofs.lemmas.Option.{same_Some}
use Rattle.vx_traversal.specs.declared.order.TraversalOrder.{TraversalOrder}
use Rattle.vx_traversal.specs.declared.order.TraversalOrder.TheVariants.{Stop, Continue}
use Rattle.vx_traversal.specs.declared.walking.Descent.{Descent}
use Rattle.vx_traversal.specs.Visits.{Step, EndsOrGoesOn, InTurn, AfterChildren, Visits}
use Rattle.vx_traversal.specs.Paths.{path_place, IsNext, IsBelow, TakesBetween, AfterPathChild, UpPath, Descends}
use Rattle.vx_traversal.proofs.Steps.{drop-next, drop-past, goes_on}
use Rattle.vx_traversal.proofs.FirstVisitLemmas.{alone, at-error, contains-at, no-nodes}
use Rattle.vx_traversal.proofs.VisitLemmas.{Visits-through}

module _ {N : Type 0} (children : N → List N) where
  -- a node has one next node
  pub same_next : (n c d : N) → IsNext children n c → IsNext children n d → d ≡ c
  same_next n c d is also = same_Some d c (sym also ∙ is)

  one_more : (k : ℕ) (n m c : N) → IsBelow children k n m → IsNext children m c → IsBelow children (suc k) n c
  one_more zero n m c below next = (c, subst (λ z. IsNext children z c) below next, refl)
  one_more (suc k) n m c (d, first, below) next = (d, first, one_more k d m c below next)

  -- one link more
  pub IsBelow-next : (k : ℕ) (n m c : N) → IsBelow children k n m → IsNext children m c → IsBelow children (k + 1) n c
  IsBelow-next k n m c below next = subst (λ j. IsBelow children j n c) (sym (add-one k)) (one_more k n m c below next)

  -- some node stands fewer links below
  pub IsBelow-first : (j i : ℕ) (n m : N) → j ≤ i → IsBelow children i n m → (d : N) × IsBelow children j n d
  IsBelow-first zero i n m fewer below = (n, refl)
  IsBelow-first (suc j) zero n m fewer below = absurd (omega (arith, fewer))
  IsBelow-first (suc j) (suc i) n m fewer (c, first, below) = let found : (d : N) × IsBelow children j c d = IsBelow-first j i c m (omega (arith, fewer)) below in (found.0, (c, first, found.1))

  -- the links behind the first ones
  pub IsBelow-rest : (j k i : ℕ) (n d m : N) → j + k ≡ i → IsBelow children i n m → IsBelow children j n d → IsBelow children k d m
  IsBelow-rest zero k i n d m sum below upper =
      let same : i ≡ k = omega (arith, sum) in
      subst (λ z. IsBelow children k z m) (sym upper) (subst (λ l. IsBelow children l n m) same below)
  IsBelow-rest (suc j) k zero n d m sum below upper = absurd (omega (arith, sum))
  IsBelow-rest (suc j) k (suc i) n d m sum (c, first, below) (e, also, upper) =
      IsBelow-rest j k i c d m (omega (arith, sum)) below (subst (λ z. IsBelow children j z d) (same_next n c e first also) upper)

  -- a node with nodes below it on its path has a next one
  pub IsBelow-has_next : (k : ℕ) (n m : N) → 0 < k → IsBelow children k n m → (c : N) × IsNext children n c
  IsBelow-has_next zero n m some below = absurd (omega (arith, some))
  IsBelow-has_next (suc k) n m some (c, first, below) = (c, first)

  -- a node has children where the path goes on
  pub IsBelow-some : (j k : ℕ) (n d m : N) → j < k → IsBelow children k n m → IsBelow children j n d → 0 < length (children d)
  IsBelow-some j k n d m more below upper =
      let whole : j + (k - j) ≡ k = omega (arith, more) in
      let rest : IsBelow children (k - j) d m = IsBelow-rest j (k - j) k n d m whole below upper in
      let some : 0 < k - j = omega (arith, more) in
      let next : (c : N) × IsNext children d c = IsBelow-has_next (k - j) d m some rest in
      let has : Contains (children d) next.0 = contains-at (children d) (path_place children d) next.0 next.1 in
      let within : has.0 < length (children d) = has.1 in
      omega (arith, within)

  -- a node is as much lower as it stands links below
  pub IsBelow-lower : (height : N → ℕ) → ((n c : N) → Contains (children n) c → height c < height n) → (k : ℕ) (n m : N) → IsBelow children k n m → height m + k ≤ height n
  IsBelow-lower height lower zero n m below = let same : height m ≡ height n = ap height below in omega (arith, same)
  IsBelow-lower height lower (suc k) n m (c, first, below) =
      let low : height c < height n = lower n c (contains-at (children n) (path_place children n) c first) in
      let rest : height m + k ≤ height c = IsBelow-lower height lower k c m below in
      omega (arith, low, rest)

module _ {S N E : Type 0} (Each : Step S N E) (ns : List N) (from to : ℕ) (last : TraversalOrder) (s : S) where
  -- an error among them ends the walk
  pub TakesBetween-error : (e : E) (q : Result TraversalOrder E) (u : S) → q ≡ Err e → InTurn Each last s (drop from ns) (Err e) u → TakesBetween Each ns from to last s q u
  TakesBetween-error e q u is turns r t ends =
      let both : (r ≡ Err e) × (t ≡ u) = at-error Each (λ order. InTurn Each order u (drop to ns) r t) q u r t e is ends in
      let P : Result TraversalOrder E → Type 0 = λ z. InTurn Each last s (drop from ns) z t in
      let Q : S → Type 0 = λ z. InTurn Each last s (drop from ns) (Err e) z in
      subst P (sym both.0) (subst Q (sym both.1) turns)

  -- Stop among them ends the walk
  pub TakesBetween-stop : (u : S) → InTurn Each last s (drop from ns) (Ok Stop) u → TakesBetween Each ns from to last s (Ok Stop) u
  TakesBetween-stop u turns r t both =
      let P : Result TraversalOrder E → Type 0 = λ z. InTurn Each last s (drop from ns) z t in
      let Q : S → Type 0 = λ z. InTurn Each last s (drop from ns) (Ok Stop) z in
      subst P (sym both.0) (subst Q (sym both.1) turns)

  -- behind the last of them there is none
  pub TakesBetween-all : (q : Result TraversalOrder E) (u : S) → length ns ≤ to → TakesBetween Each ns from to last s q u → InTurn Each last s (drop from ns) q u
  TakesBetween-all q u past between =
      let P : List N → Type 0 = λ ms. EndsOrGoesOn (λ order. InTurn Each order u ms q u) q u q u in
      between q u (subst P (sym (drop-past ns to past)) (alone Each q u))

module _ {S N E : Type 0} (children : N → List N) (down up : Step S N E) (height : N → ℕ) where
  last_first : (k : ℕ) (n m : N) → IsBelow children k n m → (q : Result TraversalOrder E) (u : S) (r : Result TraversalOrder E) (t : S) → UpPath children down up height (suc k) n q u r t →
      (p : Result TraversalOrder E) × (v : S) × AfterPathChild children down up height m q u p v × UpPath children down up height k n p v r t
  last_first zero n m below q u r t (c, p, v, first, (same, stays), after) =
      let P : Result TraversalOrder E → Type 0 = λ z. AfterPathChild children down up height n z v r t in
      let Q : S → Type 0 = λ z. AfterPathChild children down up height n q z r t in
      (r, t, subst (λ z. AfterPathChild children down up height z q u r t) (sym below) (subst Q stays (subst P same after)), (refl, refl))
  last_first (suc k) n m (d, next, below) q u r t (c, p, v, first, upper, after) =
      let found : (p' : Result TraversalOrder E) × (v' : S) × AfterPathChild children down up height m q u p' v' × UpPath children down up height k c p' v' p v =
      last_first k c m (subst (λ z. IsBelow children k z m) (same_next children n c d first next) below) q u p v upper in
      (found.0, found.1, found.2, (c, p, v, first, found.3, after))

  -- what is left along a path is what is left of its last node, and then of those above it
  pub UpPath-next : (k : ℕ) (n m : N) → IsBelow children k n m → (q : Result TraversalOrder E) (u : S) (r : Result TraversalOrder E) (t : S) → UpPath children down up height (k + 1) n q u r t →
      (p : Result TraversalOrder E) × (v : S) × AfterPathChild children down up height m q u p v × UpPath children down up height k n p v r t
  UpPath-next k n m below q u r t upper = last_first k n m below q u r t (subst (λ j. UpPath children down up height j n q u r t) (add-one k) upper)

  -- what is left along the lower part of a path, and then along the upper part
  pub UpPath-join : (j k i : ℕ) (n m : N) → j + k ≡ i → IsBelow children j n m → (q : Result TraversalOrder E) (u : S) (p : Result TraversalOrder E) (v : S) (r : Result TraversalOrder E) (t : S) →
      UpPath children down up height k m q u p v → UpPath children down up height j n p v r t → UpPath children down up height i n q u r t
  UpPath-join zero k i n m sum below q u p v r t lower (same, stays) =
      let is : k ≡ i = omega (arith, sum) in
      let P : Result TraversalOrder E → Type 0 = λ z. UpPath children down up height k n q u z t in
      let Q : S → Type 0 = λ z. UpPath children down up height k n q u p z in
      subst (λ l. UpPath children down up height l n q u r t) is (subst P (sym same) (subst Q (sym stays) (subst (λ z. UpPath children down up height k z q u p v) below lower)))
  UpPath-join (suc j) k zero n m sum below q u p v r t lower upper = absurd (omega (arith, sum))
  UpPath-join (suc j) k (suc i) n m sum (d, next, below) q u p v r t lower (c, p', v', first, upper, after) =
      (c, p', v', first, UpPath-join j k i c m (omega (arith, sum)) (subst (λ z. IsBelow children j z m) (same_next children n c d first next) below) q u p v p' v' lower upper, after)

  -- an error ends the whole visit
  pub UpPath-error : (k : ℕ) (n m : N) → IsBelow children k n m → (e : E) (u : S) → UpPath children down up height k n (Err e) u (Err e) u
  UpPath-error zero n m below e u = (refl, refl)
  UpPath-error (suc k) n m (c, first, below) e u = (c, Err e, u, first, UpPath-error k c m below e u, (Err e, u, (refl, refl), (refl, refl)))

  -- Stop ends the whole visit
  pub UpPath-stop : (k : ℕ) (n m : N) → IsBelow children k n m → (u : S) → UpPath children down up height k n (Ok Stop) u (Ok Stop) u
  UpPath-stop zero n m below u = (refl, refl)
  UpPath-stop (suc k) n m (c, first, below) u = (c, Ok Stop, u, first, UpPath-stop k c m below u, (Ok Stop, u, (refl, refl), (refl, refl)))

  -- one node of the path
  pub UpPath-one : (n c : N) → IsNext children n c → (q : Result TraversalOrder E) (u : S) (r : Result TraversalOrder E) (t : S) → AfterPathChild children down up height n q u r t → UpPath children down up height 1 n q u r t
  UpPath-one n c first q u r t after = (c, q, u, first, (refl, refl), after)

  -- down with Continue, the children before the next node of the path, that one, and what is left
  pub Visits-path : ((n c : N) → Contains (children n) c → height c < height n) → (s : S) (n : N) (p : Result TraversalOrder E) (u : S) (o : TraversalOrder) (v : S) (c : N) (q : Result TraversalOrder E) (w : S) (r : Result TraversalOrder E) (t : S) →
      down s n p u → p ≡ Ok Continue → TakesBetween (Visits children down up height) (children n) 0 (path_place children n) Continue u (Ok o) v → (o ≡ Stop → ⊥) → IsNext children n c → Visits children down up height v c q w →
      AfterPathChild children down up height n q w r t → Visits children down up height s n r t
  Visits-path lower s n p u o v c q w r t step goes between on next visit (x, y, ends, after) =
      let P : List N → Type 0 = λ ms. InTurn (Visits children down up height) o v ms x y in
      let rest : drop (path_place children n) (children n) ≡ c ∷ drop (path_place children n + 1) (children n) = drop-next (children n) (path_place children n) c next in
      let turns : InTurn (Visits children down up height) o v (drop (path_place children n) (children n)) x y = subst P (sym rest) (q, w, visit, ends) in
      Visits-through children down up height lower s n p u x y r t step goes (between x y (goes_on o on (λ order. InTurn (Visits children down up height) order v (drop (path_place children n) (children n)) x y) v x y turns)) after

  -- a node without children
  pub Visits-leaf : ((n c : N) → Contains (children n) c → height c < height n) → (s : S) (n : N) (p : Result TraversalOrder E) (u : S) (r : Result TraversalOrder E) (t : S) →
      down s n p u → p ≡ Ok Continue → length (children n) ≡ 0 → up u n r t → Visits children down up height s n r t
  Visits-leaf lower s n p u r t step goes none step_up =
      Visits-through children down up height lower s n p u (Ok Continue) u r t step goes (no-nodes (Visits children down up height) (children n) Continue u none) step_up

  -- an error ends the descent
  pub Descends-error : (s : S) (n : N) (e : E) (q : Result Descent E) (t : S) → q ≡ Err e → Visits children down up height s n (Err e) t → Descends children down up height s n q t
  Descends-error s n e q t is visit = let P : Result Descent E → Type 0 = λ z. Descends children down up height s n z t in subst P (sym is) visit

  -- the children behind the one on the path, and what follows them
  pub after-path : (n : N) (place count : ℕ) (o : TraversalOrder) (s : S) (p : Result TraversalOrder E) (v : S) (r : Result TraversalOrder E) (t : S) →
      place ≡ path_place children n → length (children n) ≤ count → (o ≡ Stop → ⊥) → TakesBetween (Visits children down up height) (children n) (place + 1) count o s p v →
      AfterChildren children down up n p v r t → AfterPathChild children down up height n (Ok o) s r t
  after-path n place count o s p v r t is past on between after =
      let P : ℕ → Type 0 = λ i. InTurn (Visits children down up height) o s (drop (i + 1) (children n)) p v in
      let turns : InTurn (Visits children down up height) o s (drop (path_place children n + 1) (children n)) p v =
      subst P is (TakesBetween-all (Visits children down up height) (children n) (place + 1) count o s p v past between) in
      (p, v, goes_on o on (λ order. InTurn (Visits children down up height) order s (drop (path_place children n + 1) (children n)) p v) s p v turns, after)

  -- what is left along a path and at its last node, after one more link
  pub left_on : (k : ℕ) (top m c : N) → IsBelow children k top m → IsNext children m c → (s₀ s t : S) →
      ((q : Result TraversalOrder E) (u : S) (r : Result TraversalOrder E) (v : S) → Visits children down up height s m q u → UpPath children down up height k top q u r v → Visits children down up height s₀ top r v) →
      ((d : N) (q : Result TraversalOrder E) (u : S) (r : Result TraversalOrder E) (v : S) → IsNext children m d → Visits children down up height t d q u → AfterPathChild children down up height m q u r v → Visits children down up height s m r v) →
      (q : Result TraversalOrder E) (u : S) (r : Result TraversalOrder E) (v : S) → Visits children down up height t c q u → UpPath children down up height (k + 1) top q u r v → Visits children down up height s₀ top r v
  left_on k top m c below next s₀ s t above here q u r v visit upper =
      let split : (p : Result TraversalOrder E) × (w : S) × AfterPathChild children down up height m q u p w × UpPath children down up height k top p w r v = UpPath-next k top m below q u r v upper in
      above split.0 split.1 r v (here c q u split.0 split.1 next visit split.2) split.3
