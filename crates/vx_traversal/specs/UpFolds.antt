-- For the checker: no public clause cites this.
-- What a step that hangs on the node alone makes of a tree, as the result of a fold and the first refusal that its state keeps.
use Rattle.std.specs.Prelude.{◌≡◌, ℕ, List, [], ◌∷◌, Option, Some, None, unwrap_or, Result, Ok, Err, length}
use Rattle.vx_traversal.specs.declared.up_step.UpSteps.{UpSteps}
use Rattle.vx_traversal.specs.UpSteps.{MakesOver, MakesUp}

-- what stands in the places of these nodes: what was made of each, and itself where nothing was
abbrev pub in_places : {N : Type 0} → List N → List (Option N) → List N
in_places [] made = []
in_places (n ∷ ns) [] = n ∷ ns
in_places (n ∷ ns) (m ∷ made) = unwrap_or m n ∷ in_places ns made

module _ {N E : Type 0} where
  -- the refusal where one is kept, else what stands in the node's place
  abbrev pub kept_or_made : N → Option N → Option E → Result N E
  kept_or_made n made (Some e) = Err e
  kept_or_made n made None = Ok (unwrap_or made n)

  module _ (children : N → List N) (is_with : N → List N → N → Type 0) (Step : N → Result N E → Type 0) (height : N → ℕ) where
    -- what the fold does to a tree: a refusal that was kept before stays, and else the tree is made
    abbrev pub Makes : Option E → N → Option N → Option E → Type 0
    Makes (Some e) n made after = after ≡ Some e
    Makes None n made after = MakesUp children is_with Step height n (kept_or_made n made after)

    -- what is known once the children are made without a refusal: what the step makes of the node over them is made of the tree
    abbrev pub GathersMade : N → List (Option N) → Option E → Type 0
    GathersMade n made (Some e) = MakesUp children is_with Step height n (Err e)
    GathersMade n made None =
        (length made ≡ length (children n)) × ((r : Result N E) → MakesOver children is_with Step n (in_places (children n) made) r → MakesUp children is_with Step height n r)

    -- what the fold has done once the children are folded
    abbrev pub Gathers : Option E → N → List (Option N) → Option E → Type 0
    Gathers (Some e) n made after = after ≡ Some e
    Gathers None n made after = GathersMade n made after

module _ {S N E : Type 0} (children : N → List N) (is_with : N → List N → N → Type 0) (makes : S → N → Result N E → Type 0) (height : N → ℕ) where
  -- what the fold does to a tree, and what it has done once the children are folded: its step stays
  abbrev pub MakesTree : UpSteps S E → N → Option N → UpSteps S E → Type 0
  MakesTree before n made after = (after.step ≡ before.step) × Makes children is_with (makes before.step.now) height before.refused n made after.refused

  abbrev pub GathersTree : UpSteps S E → N → List (Option N) → UpSteps S E → Type 0
  GathersTree before n made after = (after.step ≡ before.step) × Gathers children is_with (makes before.step.now) height before.refused n made after.refused
