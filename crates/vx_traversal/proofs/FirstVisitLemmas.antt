-- The visit of a node whose step after the children may do nothing, from the visit of its last child.
use Rattle.std.specs.Prelude.{◌≡◌, ℕ, zero, suc, ◌<◌, ◌+◌, List, [], ◌∷◌, Result, Ok, Err, Some, slice_get, Contains, length, drop}
use Rattle.std.proofs.Common.{refl, sym, subst, ap, ◌∙◌, arith}
use Rattle.std.proofs.lemmas.Option.{same_Some, none-some}
use Rattle.vx_traversal.specs.declared.order.TraversalOrder.{TraversalOrder}
use Rattle.vx_traversal.specs.declared.order.TraversalOrder.TheVariants.{Skip, Stop, Continue}
use Rattle.vx_traversal.specs.Visits.{Step, EndsOrGoesOn, InTurn, AfterChildren, Visits}
use Rattle.vx_traversal.specs.FirstVisits.{MayDoNothing, TakesFirst}
use Rattle.vx_traversal.proofs.Steps.{drop-next, drop-past, goes_on}
use Rattle.vx_traversal.proofs.VisitLemmas.{Visits-through}

-- a list contains what stands at a place
pub contains-at : {A : Type 0} (xs : List A) (i : ℕ) (x : A) → slice_get xs i ≡ Some x → Contains xs x
contains-at [] i x at = absurd (none-some x at)
contains-at (y ∷ ys) zero x at = (0, omega arith, same_Some y x at)
contains-at (y ∷ ys) (suc i) x at = let found : Contains ys x = contains-at ys i x at in (suc found.0, let within : found.0 < length ys = found.1 in omega (arith, within), found.2)

module _ {S N E : Type 0} (Each : Step S N E) where
  -- the last node's answer is the answer of all
  pub alone : (q : Result TraversalOrder E) (u : S) → EndsOrGoesOn (λ order. InTurn Each order u [] q u) q u q u
  alone (Err e) u = (refl, refl)
  alone (Ok Stop) u = (refl, refl)
  alone (Ok Skip) u = (refl, refl)
  alone (Ok Continue) u = (refl, refl)

  -- no node leaves the order as it is
  pub no-nodes : (ns : List N) (o : TraversalOrder) (u : S) → length ns ≡ 0 → InTurn Each o u ns (Ok o) u
  no-nodes [] o u none = (refl, refl)
  no-nodes (n ∷ ns) o u none = absurd (omega (arith, none))

  -- an error among the first nodes ends the walk
  pub at-error : (G : TraversalOrder → Type 0) (q : Result TraversalOrder E) (u : S) (r : Result TraversalOrder E) (t : S) (e : E) → q ≡ Err e → EndsOrGoesOn G q u r t → (r ≡ Err e) × (t ≡ u)
  at-error G q u r t e is = subst (λ (p : Result TraversalOrder E). EndsOrGoesOn G p u r t → (r ≡ Err e) × (t ≡ u)) (sym is) (λ w. w)

  pub at-end : (ns : List N) (s : S) (p q : Result TraversalOrder E) (u v : S) → q ≡ p → v ≡ u → InTurn Each Continue s ns p u → InTurn Each Continue s ns q v
  at-end ns s p q u v same stays w = let P : Result TraversalOrder E → Type 0 = λ z. InTurn Each Continue s ns z v in let Q : S → Type 0 = λ z. InTurn Each Continue s ns p z in subst P (sym same) (subst Q (sym stays) w)

  -- the first nodes and then the last one
  pub then-last : (ns : List N) (i : ℕ) (n : N) (s : S) (o : TraversalOrder) (u : S) (q : Result TraversalOrder E) (t : S) → i + 1 ≡ length ns → slice_get ns i ≡ Some n → (o ≡ Stop → ⊥) →
      TakesFirst Each ns i s (Ok o) u → Each u n q t → InTurn Each Continue s ns q t
  then-last ns i n s o u q t many at on first step =
      let rest : drop i ns ≡ n ∷ [] = drop-next ns i n at ∙ ap (λ ms. n ∷ ms) (drop-past ns (i + 1) (omega (arith, many))) in
      let P : List N → Type 0 = λ ms. InTurn Each o u ms q t in
      first q t (goes_on o on (λ order. InTurn Each order u (drop i ns) q t) u q t (subst P (sym rest) (q, t, step, alone q t)))

module _ {S N E : Type 0} (children : N → List N) (down up : Step S N E) (height : N → ℕ) (nothing : MayDoNothing up) where
  -- after the children nothing is done
  passes : (n : N) (q : Result TraversalOrder E) (u : S) → AfterChildren children down up n q u q u
  passes n (Err e) u = (refl, refl)
  passes n (Ok Stop) u = (refl, refl)
  passes n (Ok Skip) u = (refl, refl)
  passes n (Ok Continue) u = nothing u n

  -- the children's answer is the node's
  pub through : ((n c : N) → Contains (children n) c → height c < height n) → (s : S) (n : N) (p : Result TraversalOrder E) (u : S) (q : Result TraversalOrder E) (v : S) →
      down s n p u → p ≡ Ok Continue → InTurn (Visits children down up height) Continue u (children n) q v → Visits children down up height s n q v
  through lower s n p u q v step goes turns = Visits-through children down up height lower s n p u q v q v step goes turns (passes n q v)
