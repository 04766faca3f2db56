-- For the checker: no public clause cites this.
-- The path of a node: from the node on with the deepest child of each; and what is left to be done along a path once its end has an answer.
use Rattle.std.specs.Prelude.{◌≡◌, ℕ, zero, suc, ◌+◌, ◌<◌, Bool, true, false, List, [], ◌∷◌, Result, Ok, Err, Some, slice_get, drop, length}
use Rattle.std.specs.List.{list_any}
use Rattle.vx_traversal.specs.declared.order.TraversalOrder.{TraversalOrder}
use Rattle.vx_traversal.specs.declared.walking.Descent.{Descent}
use Rattle.vx_traversal.specs.declared.walking.Descent.TheVariants.{Ends, Goes}
use Rattle.vx_traversal.specs.Visits.{Step, EndsOrGoesOn, InTurn, AfterChildren, Visits}

-- at how many levels the depths of children are compared
abbrev pub compared_levels : List ℕ
compared_levels = 1 ∷ 2 ∷ 4 ∷ 8 ∷ 16 ∷ 32 ∷ 64 ∷ []

module _ {N : Type 0} (children : N → List N) where
  -- whether a node stands so many levels below this one
  unfoldable pub reaches : ℕ → N → Bool
  reaches zero n = true
  reaches (suc k) n = list_any (reaches k) (children n)

  -- whether the second node is as deep as the first, where so many levels are compared in turn
  unfoldable pub is_as_deep : List ℕ → N → N → Bool
  is_as_deep [] a b = true
  is_as_deep (levels ∷ more) a b = elim (reaches levels a) [ true ↦ elim (reaches levels b) [ true ↦ is_as_deep more a b | false ↦ false ] | false ↦ true ]

  -- the place of the deepest of these nodes, which stand at the place `i` and behind it, and of one before them
  unfoldable pub deepest_place : N → ℕ → ℕ → List N → ℕ
  deepest_place deepest place i [] = place
  deepest_place deepest place i (n ∷ ns) =
      elim (is_as_deep compared_levels deepest n) [ true ↦ deepest_place n i (i + 1) ns | false ↦ deepest_place deepest place (i + 1) ns ]

  -- the place of the first node's deepest child
  unfoldable pub place_in : List N → ℕ
  place_in [] = 0
  place_in (n ∷ ns) = deepest_place n 0 1 ns

  -- the place of the deepest child, as far as depths are compared, and of the last one where several are as deep
  unfoldable pub path_place : N → ℕ
  path_place n = place_in (children n)

  -- the second node is the next one on the path
  abbrev pub IsNext : N → N → Type 0
  IsNext n c = slice_get (children n) (path_place n) ≡ Some c

  -- the second node stands so many links below the first on its path
  abbrev pub IsBelow : ℕ → N → N → Type 0
  IsBelow zero n m = m ≡ n
  IsBelow (suc k) n m = (c : N) × IsNext n c × IsBelow k c m

-- the nodes from one place up to another took their step in turn: what the ones behind them give then is what all from the first place on give
abbrev pub TakesBetween : {S N E : Type 0} → Step S N E → List N → ℕ → ℕ → TraversalOrder → S → Result TraversalOrder E → S → Type 0
TakesBetween {S} {N} {E} Each ns from to last s q u =
    (r : Result TraversalOrder E) (t : S) → EndsOrGoesOn (λ order. InTurn Each order u (drop to ns) r t) q u r t → InTurn Each last s (drop from ns) r t

module _ {S N E : Type 0} (children : N → List N) (down up : Step S N E) (height : N → ℕ) where
  -- what is left of a node once its child on the path has this answer: the children behind that one in turn, and up
  abbrev pub AfterPathChild : N → Result TraversalOrder E → S → Result TraversalOrder E → S → Type 0
  AfterPathChild n q u r t = (p : Result TraversalOrder E) × (v : S)
      × EndsOrGoesOn (λ order. InTurn (Visits children down up height) order u (drop (path_place children n + 1) (children n)) p v) q u p v
      × AfterChildren children down up n p v r t

  -- what is left of so many nodes of the path from this one on, once the node below them has this answer
  abbrev pub UpPath : ℕ → N → Result TraversalOrder E → S → Result TraversalOrder E → S → Type 0
  UpPath zero n q u r t = (r ≡ q) × (t ≡ u)
  UpPath (suc k) n q u r t = (c : N) × (p : Result TraversalOrder E) × (v : S) × IsNext children n c × UpPath k c q u p v × AfterPathChild n p v r t

  -- the visit of a node as far as the next one on its path: it has its answer, or what is left of it once that one has its answer
  abbrev pub Descends : S → N → Result Descent E → S → Type 0
  Descends s n (Err e) t = Visits children down up height s n (Err e) t
  Descends s n (Ok (Ends order)) t = Visits children down up height s n (Ok order) t
  Descends s n (Ok (Goes place)) t = (place ≡ path_place children n) × (place < length (children n))
      × ((c : N) (q : Result TraversalOrder E) (u : S) (r : Result TraversalOrder E) (v : S) → IsNext children n c → Visits children down up height t c q u
      → AfterPathChild n q u r v → Visits children down up height s n r v)
