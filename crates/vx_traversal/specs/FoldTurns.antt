-- A fold that says what it does to a whole tree: what has to be so of its steps for that.
use Rattle.std.specs.Prelude.{List, [], ◌∷◌, ◌++◌, Option, Some, None}

module _ {S N R : Type 0} (ready : S → N → Type 0) (folds : S → N → R → S → Type 0) where
  -- each of these nodes in turn may be folded in the state that the one before it leaves; at the end this is so of their results and the state
  abbrev pub MayTurn : (List R → S → Type 0) → List N → List R → S → Type 0
  MayTurn Done [] results s = Done results s
  MayTurn Done (n ∷ ns) results s = ready s n × ((x : R) (t : S) → folds s n x t → MayTurn Done ns (results ++ x ∷ []) t)

  -- the step before the children: it gives the result of the whole tree, or leaves a state in which the children may be folded in turn
  abbrev pub StepsDown : (N → List N) → (S → N → List R → S → Type 0) → S → N → Option R → S → Type 0
  StepsDown children gathers s n (Some x) t = folds s n x t
  StepsDown children gathers s n None t = MayTurn (gathers s n) (children n) [] t
