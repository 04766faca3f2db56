-- The visit of a node from the visits of its children.
use Rattle.std.specs.Prelude.{◌≡◌, ℕ, zero, suc, ◌<◌, ◌≤◌, List, Result, Ok, Err, Contains}
use Rattle.std.proofs.Common.{refl, sym, subst, arith}
use Rattle.vx_traversal.specs.declared.order.TraversalOrder.{TraversalOrder}
use Rattle.vx_traversal.specs.declared.order.TraversalOrder.TheVariants.{Skip, Stop, Continue}
use Rattle.vx_traversal.specs.Visits.{Step, InTurn, AfterChildren, AfterDown, VisitsBelow, Visits}
use Rattle.vx_traversal.proofs.Steps.{InTurn-each}

module _ {S N E : Type 0} (children : N → List N) (down up : Step S N E) (height : N → ℕ) where
  after_down : {A B : Step S N E} → ((s : S) (n : N) (q : Result TraversalOrder E) (u : S) → A s n q u → B s n q u) →
      (n : N) (p : Result TraversalOrder E) (s : S) (r : Result TraversalOrder E) (t : S) → AfterDown children down up A n p s r t → AfterDown children down up B n p s r t
  after_down f n (Err e) s r t w = w
  after_down f n (Ok Stop) s r t w = w
  after_down f n (Ok Skip) s r t w = w
  after_down f n (Ok Continue) s r t (q, u, turns, rest) = (q, u, InTurn-each (children n) (λ m is s' q' u'. f s' m q' u') Continue s q u turns, rest)

  -- a visit below a number is one below each larger number
  pub VisitsBelow-more : (j k : ℕ) → j ≤ k → (s : S) (n : N) (r : Result TraversalOrder E) (t : S) → VisitsBelow children down up j s n r t → VisitsBelow children down up k s n r t
  VisitsBelow-more zero k le s n r t w = absurd w
  VisitsBelow-more (suc j) zero le s n r t w = absurd (omega arith)
  VisitsBelow-more (suc j) (suc k) le s n r t (p, u, step, rest) = (p, u, step, after_down (VisitsBelow-more j k (omega arith)) n p u r t rest)

  -- down with Continue, the visits of the children in turn, and what follows them
  pub Visits-through : ((n c : N) → Contains (children n) c → height c < height n) →
      (s : S) (n : N) (p : Result TraversalOrder E) (u : S) (q : Result TraversalOrder E) (v : S) (r : Result TraversalOrder E) (t : S) →
      down s n p u → p ≡ Ok Continue → InTurn (Visits children down up height) Continue u (children n) q v → AfterChildren children down up n q v r t → Visits children down up height s n r t
  Visits-through lower s n p u q v r t step goes turns rest =
      let P : Result TraversalOrder E → Type 0 = λ p'. AfterDown children down up (VisitsBelow children down up (height n)) n p' u r t in
      (p, u, step, subst P (sym goes) (q, v, InTurn-each (children n) (λ m is s' q' u' w. VisitsBelow-more (suc (height m)) (height n) (let low : height m < height n = lower n m is in omega arith) s' m q' u' w) Continue u q v turns, rest))

  -- up after children with the order Continue
  pub after-continue : (n : N) (q : Result TraversalOrder E) (v : S) (r : Result TraversalOrder E) (t : S) → q ≡ Ok Continue → up v n r t → AfterChildren children down up n q v r t
  after-continue n q v r t is step = subst (λ (q' : Result TraversalOrder E). AfterChildren children down up n q' v r t) (sym is) step

  -- an error among the children ends the visit
  pub after-error : (n : N) (q : Result TraversalOrder E) (v : S) (e : E) (r : Result TraversalOrder E) → q ≡ Err e → r ≡ Err e → AfterChildren children down up n q v r v
  after-error n q v e r is answers = subst (λ (q' : Result TraversalOrder E). AfterChildren children down up n q' v r v) (sym is) (answers, refl)

  -- another order of the children is the node's
  ends : (n : N) (o : TraversalOrder) (v : S) → (o ≡ Continue → ⊥) → AfterChildren children down up n (Ok o) v (Ok o) v
  ends n Skip v on = (refl, refl)
  ends n Stop v on = (refl, refl)
  ends n Continue v on = absurd (on refl)

  pub after-other : (n : N) (q : Result TraversalOrder E) (v : S) (o : TraversalOrder) → q ≡ Ok o → (o ≡ Continue → ⊥) → AfterChildren children down up n q v (Ok o) v
  after-other n q v o is on = subst (λ (q' : Result TraversalOrder E). AfterChildren children down up n q' v (Ok o) v) (sym is) (ends n o v on)
