-- What a step that hangs on the node alone makes of a tree from the leaves up: the fold of the step over the tree, up to the first refusal.
use Rattle.std.specs.Prelude.{◌≡◌, ℕ, zero, suc, List, [], ◌∷◌, ◌++◌, Option, unwrap_or, Result, Ok, Err, ⊤}
use Rattle.std.proofs.Common.{◌⊎◌}
use Rattle.vx_traversal.specs.declared.errors.WalkError.TheVariants.{NoMemory, Visit}
use Rattle.vx_traversal.specs.Rewrites.{Walk}

-- what stands in the place of a node: what was made of it, and the node where nothing was
abbrev pub in_place : {N E : Type 0} → N → Result (Option N) E → Result N E
in_place n (Ok made) = Ok (unwrap_or made n)
in_place n (Err e) = Err e

-- what is so of the value or of the error that a walk answers; after NoMemory nothing is said
abbrev pub OfAnswer : {N E : Type 0} → (Result N E → Type 0) → Walk N E → Type 0
OfAnswer P (Ok d) = P (Ok d)
OfAnswer P (Err NoMemory) = ⊤
OfAnswer P (Err (Visit e)) = P (Err e)

-- the node over these children: itself where they are its own, else the node with these in place of its own
abbrev pub IsOver : {N : Type 0} → (N → List N) → (N → List N → N → Type 0) → N → List N → N → Type 0
IsOver children is_with n ds over = ((ds ≡ children n) × (over ≡ n)) ⊎ is_with n ds over

module _ {N E : Type 0} where
  -- a refusal stands, and with what was made of a node it goes on
  abbrev pub AfterMade : (N → Type 0) → Result N E → Result N E → Type 0
  AfterMade GoesOn (Err e) r = r ≡ Err e
  AfterMade GoesOn (Ok d) r = GoesOn d

  -- the nodes are made in turn, up to the first refusal; after the last one it goes on with what was made of all
  abbrev pub MakesInTurn : (N → Result N E → Type 0) → (List N → Result N E → Type 0) → List N → List N → Result N E → Type 0
  MakesInTurn Each GoesOn made [] r = GoesOn made r
  MakesInTurn Each GoesOn made (n ∷ ns) r = (q : Result N E) × Each n q × AfterMade (λ d. MakesInTurn Each GoesOn (made ++ d ∷ []) ns r) q r

  module _ (children : N → List N) (is_with : N → List N → N → Type 0) (Makes : N → Result N E → Type 0) where
    -- what the step makes of the node over these children
    abbrev pub MakesOver : N → List N → Result N E → Type 0
    MakesOver n ds r = (over : N) × IsOver children is_with n ds over × Makes over r

    -- first the children are made in turn, then the node over what was made of them
    abbrev pub MakesNode : (N → Result N E → Type 0) → N → Result N E → Type 0
    MakesNode Child n r = MakesInTurn Child (MakesOver n) [] (children n) r

    -- what is made of a node whose height is below the number
    abbrev pub MakesBelow : ℕ → N → Result N E → Type 0
    MakesBelow zero n r = ⊥
    MakesBelow (suc k) n r = MakesNode (MakesBelow k) n r

    -- what the step makes of a tree from the leaves up
    abbrev pub MakesUp : (N → ℕ) → N → Result N E → Type 0
    MakesUp height n r = MakesBelow (suc (height n)) n r
