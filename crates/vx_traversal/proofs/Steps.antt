-- One step of the nodes that are visited in turn.
use Rattle.std.specs.Prelude.{◌≡◌, ℕ, zero, suc, ◌+◌, ◌≤◌, List, [], ◌∷◌, Result, Ok, Err, Some, slice_get, Contains, length}
use Rattle.std.proofs.Common.{drop, refl, sym, ap, ◌∙◌, ◌++◌, append_assoc, subst, add-one, arith}
use Rattle.std.proofs.lemmas.List.{append-nil}
use Rattle.vx_traversal.specs.declared.order.TraversalOrder.{TraversalOrder}
use Rattle.vx_traversal.specs.declared.order.TraversalOrder.TheVariants.{Skip, Stop, Continue}
use Rattle.vx_traversal.specs.Visits.{Step, InTurn, EndsOrGoesOn}

-- what is left from a place on is the member there, before what is left after it
pub drop-at : {A : Type 0} (xs : List A) (i : ℕ) (x : A) → slice_get xs i ≡ Some x → drop i xs ≡ x ∷ drop (suc i) xs
drop-at [] i x e = cc
drop-at (y ∷ ys) zero x e = cc
drop-at (y ∷ ys) (suc i) x e = drop-at ys i x e

-- the same with the next place as code counts it
pub drop-next : {A : Type 0} (xs : List A) (i : ℕ) (x : A) → slice_get xs i ≡ Some x → drop i xs ≡ x ∷ drop (i + 1) xs
drop-next xs i x at = drop-at xs i x at ∙ ap (λ j. x ∷ drop j xs) (sym (add-one i))

-- after an order that is no Stop the walk goes on
pub goes_on : {S E : Type 0} (o : TraversalOrder) → (o ≡ Stop → ⊥) → (GoesOn : TraversalOrder → Type 0) (s : S) (r : Result TraversalOrder E) (t : S) → GoesOn o → EndsOrGoesOn GoesOn (Ok o) s r t
goes_on Skip on GoesOn s r t h = h
goes_on Stop on GoesOn s r t h = absurd (on refl)
goes_on Continue on GoesOn s r t h = h

module _ {S N E : Type 0} (Each : Step S N E) (ys : List N) (x : N) (rest : List N) (is : ys ≡ x ∷ rest) (last : TraversalOrder) (s : S) (q : Result TraversalOrder E) (u : S) (step : Each s x q u) where
  -- the first step, and then the rest
  first_step : (r : Result TraversalOrder E) (t : S) → EndsOrGoesOn (λ order. InTurn Each order u rest r t) q u r t → InTurn Each last s ys r t
  first_step r t w = let P : List N → Type 0 = λ zs. InTurn Each last s zs r t in subst P (sym is) (q, u, step, w)

  -- an error at the first ends the walk
  pub InTurn-error : (e : E) (r : Result TraversalOrder E) → q ≡ Err e → r ≡ Err e → InTurn Each last s ys r u
  InTurn-error e r errors answers =
      first_step r u (let P : Result TraversalOrder E → Type 0 = λ p. EndsOrGoesOn (λ order. InTurn Each order u rest r u) p u r u in subst P (sym errors) (answers, refl))

  -- Stop at the first ends the walk
  pub InTurn-stop : q ≡ Ok Stop → InTurn Each last s ys (Ok Stop) u
  InTurn-stop stops =
      first_step (Ok Stop) u (let P : Result TraversalOrder E → Type 0 = λ p. EndsOrGoesOn (λ order. InTurn Each order u rest (Ok Stop) u) p u (Ok Stop) u in subst P (sym stops) (refl, refl))

  -- after another order the walk goes on
  pub InTurn-next : (o : TraversalOrder) → q ≡ Ok o → (o ≡ Stop → ⊥) → (r : Result TraversalOrder E) (t : S) → InTurn Each o u rest r t → InTurn Each last s ys r t
  InTurn-next o goes on r t w =
      first_step r t (let P : Result TraversalOrder E → Type 0 = λ p. EndsOrGoesOn (λ order. InTurn Each order u rest r t) p u r t in subst P (sym goes) (goes_on o on (λ order. InTurn Each order u rest r t) u r t w))

-- members that take their steps in turn take those that follow from them
pub InTurn-each : {S N E : Type 0} {A B : Step S N E} (ns : List N) → ((n : N) → Contains ns n → (s : S) (q : Result TraversalOrder E) (u : S) → A s n q u → B s n q u) →
    (last : TraversalOrder) (s : S) (r : Result TraversalOrder E) (t : S) → InTurn A last s ns r t → InTurn B last s ns r t
InTurn-each [] h last s r t w = w
InTurn-each {S} {N} {E} {A} {B} (n ∷ ns) h last s r t (q, u, step, rest) =
    let below : (m : N) → Contains ns m → (s : S) (q : Result TraversalOrder E) (u : S) → A s m q u → B s m q u = λ m (k, lt, is). h m (suc k, omega arith, is) in
    (q, u, h n (0, omega arith, refl) s q u step, goes_over q (λ o. InTurn A o u ns r t) (λ o. InTurn B o u ns r t) (λ o. InTurn-each ns below o u r t) u r t rest)
  where
    goes_over : (q : Result TraversalOrder E) (X Y : TraversalOrder → Type 0) → ((o : TraversalOrder) → X o → Y o) → (u : S) (r : Result TraversalOrder E) (t : S) → EndsOrGoesOn X q u r t → EndsOrGoesOn Y q u r t
    goes_over (Err e) X Y f u r t w = w
    goes_over (Ok Stop) X Y f u r t w = w
    goes_over (Ok Skip) X Y f u r t w = f Skip w
    goes_over (Ok Continue) X Y f u r t w = f Continue w

-- an answer's order by another name
pub ok-is : {T E : Type 0} (q : Result T E) (o p : T) → q ≡ Ok o → o ≡ p → q ≡ Ok p
ok-is {T} {E} q o p answers is = let P : T → Type 0 = λ z. q ≡ Ok z in subst P is answers

-- what was collected so far and what is left, after one more
pub collected-one : {A : Type 0} (so_far xs : List A) (i : ℕ) (x : A) → slice_get xs i ≡ Some x → so_far ++ drop i xs ≡ xs → (so_far ++ x ∷ []) ++ drop (i + 1) xs ≡ xs
collected-one so_far xs i x at all = append_assoc so_far (x ∷ []) (drop (i + 1) xs) ∙ (ap (λ j. so_far ++ x ∷ drop j xs) (add-one i) ∙ (ap (λ ys. so_far ++ ys) (sym (drop-at xs i x at)) ∙ all))

-- nothing is left past the end
pub drop-past : {A : Type 0} (xs : List A) (i : ℕ) → length xs ≤ i → drop i xs ≡ []
drop-past [] zero le = refl
drop-past [] (suc i) le = refl
drop-past (x ∷ xs) zero le = absurd (omega arith)
drop-past (x ∷ xs) (suc i) le = drop-past xs i (omega arith)

pub collected-all : {A : Type 0} (so_far xs : List A) (i : ℕ) → length xs ≤ i → so_far ++ drop i xs ≡ xs → so_far ≡ xs
collected-all so_far xs i le all = sym (append-nil so_far) ∙ (ap (λ ys. so_far ++ ys) (sym (drop-past xs i le)) ∙ all)
