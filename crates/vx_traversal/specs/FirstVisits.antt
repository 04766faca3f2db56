-- The visit of a node whose last child is visited apart.
use Rattle.std.specs.Prelude.{ℕ, List, drop, Result, Ok}
use Rattle.vx_traversal.specs.declared.order.TraversalOrder.{TraversalOrder}
use Rattle.vx_traversal.specs.declared.order.TraversalOrder.TheVariants.{Continue}
use Rattle.vx_traversal.specs.Visits.{Step, EndsOrGoesOn, InTurn}

-- a step that may do nothing and go on
abbrev pub MayDoNothing : {S N E : Type 0} → Step S N E → Type 0
MayDoNothing {S} {N} {E} up = (s : S) (n : N) → up s n (Ok Continue) s

-- the first of these nodes took their step in turn: what the others give then is what all of them give
abbrev pub TakesFirst : {S N E : Type 0} → Step S N E → List N → ℕ → S → Result TraversalOrder E → S → Type 0
TakesFirst {S} {N} {E} Each ns count s q u =
    (r : Result TraversalOrder E) (t : S) → EndsOrGoesOn (λ order. InTurn Each order u (drop count ns) r t) q u r t → InTurn Each Continue s ns r t
