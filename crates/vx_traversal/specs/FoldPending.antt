-- For the checker: no public clause cites this.
-- A fold that is under way: of each node whose children are folded in turn what is left of it, and what its result then is worth.
use Rattle.std.specs.Prelude.{◌≡◌, ℕ, ◌+◌, List, [], ◌∷◌, ◌++◌, length, drop, Option, Some, None}
use Rattle.vx_traversal.specs.declared.fold_steps.TurnFrame.{TurnFrame}
use Rattle.vx_traversal.specs.FoldTurns.{MayTurn}

-- the frame with one more result
abbrev pub HasOneResultMore : {N R : Type 0} → TurnFrame N R → R → TurnFrame N R → Type 0
HasOneResultMore f x g = (g.node ≡ f.node) × (g.count ≡ f.count) × (g.results.items ≡ f.results.items ++ x ∷ [])

module _ {S N R : Type 0} (children : N → List N) (ready : S → N → Type 0) (folds : S → N → R → S → Type 0) (gathers : S → N → List R → S → Type 0) where
  -- the frame knows how many children its node has, and those from a place on may be folded in turn after these results
  abbrev pub LeftOf : S → TurnFrame N R → ℕ → List R → S → Type 0
  LeftOf start f i results s = (f.count ≡ length (children f.node.now)) × MayTurn ready folds (gathers start f.node.now) (drop i (children f.node.now)) results s

  -- what is left of a frame below others, the outermost first, where the whole fold has to give this
  abbrev pub Pending : (R → S → Type 0) → List (TurnFrame N R) → TurnFrame N R → S → Type 0
  Pending Gives [] f s = (start : S) × ((x : R) (t : S) → folds start f.node.now x t → Gives x t) × LeftOf start f (length f.results.items) f.results.items s
  Pending Gives (g ∷ gs) f s = (start : S) × ((x : R) (t : S) → folds start g.node.now x t → Gives x t)
      × Pending (λ x t. LeftOf start g (length g.results.items + 1) (g.results.items ++ x ∷ []) t) gs f s

  -- the same after a step, or its end
  abbrev pub NextPending : (R → S → Type 0) → List (TurnFrame N R) → TurnFrame N R → Option R → S → Type 0
  NextPending Gives gs f None t = Pending Gives gs f t
  NextPending Gives gs f (Some x) t = Gives x t
