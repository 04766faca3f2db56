-- The visit of a node, as a relation between the node, the state before, the answer and the state after.
use Rattle.std.specs.Prelude.{◌≡◌, ℕ, zero, suc, List, [], ◌∷◌, Result, Ok, Err}
use Rattle.vx_traversal.specs.declared.order.TraversalOrder.{TraversalOrder}
use Rattle.vx_traversal.specs.declared.order.TraversalOrder.TheVariants.{Skip, Stop, Continue}

-- a step of a visitor or a closure: the state before, the node, the answer and the state after
abbrev pub Step : Type 0 → Type 0 → Type 0 → Type 1
Step S N E = S → N → Result TraversalOrder E → S → Type 0

-- the step that does nothing and goes on
abbrev pub NoStep : {S N E : Type 0} → Step S N E
NoStep s n r t = (r ≡ Ok Continue) × (t ≡ s)

-- what a call answers that tells no order: nothing, or the error
abbrev pub without_order : {E : Type 0} → Result TraversalOrder E → Result (Unit {0}) E
without_order (Err e) = Err e
without_order (Ok order) = Ok tt

module _ {S E : Type 0} where
  -- an error ends the walk, Stop ends it too, and after another order it goes on from there
  abbrev pub EndsOrGoesOn : (TraversalOrder → Type 0) → Result TraversalOrder E → S → Result TraversalOrder E → S → Type 0
  EndsOrGoesOn GoesOn (Err e) s r t = (r ≡ Err e) × (t ≡ s)
  EndsOrGoesOn GoesOn (Ok Stop) s r t = (r ≡ Ok Stop) × (t ≡ s)
  EndsOrGoesOn GoesOn (Ok Skip) s r t = GoesOn Skip
  EndsOrGoesOn GoesOn (Ok Continue) s r t = GoesOn Continue

module _ {S N E : Type 0} where
  -- the nodes take their step in turn until one answers Stop or an error; the order is the last answer, or `last` where there is none
  abbrev pub InTurn : Step S N E → TraversalOrder → S → List N → Result TraversalOrder E → S → Type 0
  InTurn Each last s [] r t = (r ≡ Ok last) × (t ≡ s)
  InTurn Each last s (n ∷ ns) r t = (q : Result TraversalOrder E) × (u : S) × Each s n q u × EndsOrGoesOn (λ order. InTurn Each order u ns r t) q u r t

  module _ (children : N → List N) (down up : Step S N E) where
    -- after the children: Continue goes up, and its answer is the order; else their order is the node's
    abbrev pub AfterChildren : N → Result TraversalOrder E → S → Result TraversalOrder E → S → Type 0
    AfterChildren n (Err e) s r t = (r ≡ Err e) × (t ≡ s)
    AfterChildren n (Ok Stop) s r t = (r ≡ Ok Stop) × (t ≡ s)
    AfterChildren n (Ok Skip) s r t = (r ≡ Ok Skip) × (t ≡ s)
    AfterChildren n (Ok Continue) s r t = up s n r t

    -- after down: Stop ends the visit, Skip goes up at once, Continue visits the children in turn
    abbrev pub AfterDown : Step S N E → N → Result TraversalOrder E → S → Result TraversalOrder E → S → Type 0
    AfterDown Child n (Err e) s r t = (r ≡ Err e) × (t ≡ s)
    AfterDown Child n (Ok Stop) s r t = (r ≡ Ok Stop) × (t ≡ s)
    AfterDown Child n (Ok Skip) s r t = up s n r t
    AfterDown Child n (Ok Continue) s r t = (q : Result TraversalOrder E) × (u : S) × InTurn Child Continue s (children n) q u × AfterChildren n q u r t

    -- the visit of a node whose height is below the number
    abbrev pub VisitsBelow : ℕ → Step S N E
    VisitsBelow zero s n r t = ⊥
    VisitsBelow (suc k) s n r t = (q : Result TraversalOrder E) × (u : S) × down s n q u × AfterDown (VisitsBelow k) n q u r t

    -- the visit of a node: down, the children in turn, up
    abbrev pub Visits : (N → ℕ) → Step S N E
    Visits height s n r t = VisitsBelow (suc (height n)) s n r t
