-- The fold of a node, as a relation between the node, the state before, the answer and the state after.
use Rattle.std.specs.Prelude.{◌≡◌, ℕ, zero, suc, List, [], ◌∷◌, ◌++◌, Ok, Err}
use Rattle.vx_traversal.specs.declared.fold.FoldDown.{FoldDown}
use Rattle.vx_traversal.specs.declared.fold.FoldDown.TheVariants as plain
use Rattle.vx_traversal.specs.declared.fold.FoldDownContext.{FoldDownContext}
use Rattle.vx_traversal.specs.declared.fold.FoldDownContext.TheVariants as deep
use Rattle.vx_traversal.specs.declared.fold.FoldUp.{FoldUp}
use Rattle.vx_traversal.specs.declared.fold.FoldUp.TheVariants.{Continue, Stop}
use Rattle.vx_traversal.specs.Rewrites.{Walk}

-- the result that a fold ends with
abbrev pub folded_value : {R : Type 0} → FoldUp R → R
folded_value (Continue r) = r
folded_value (Stop r) = r

-- down: the state before, the context, the node, the answer and the state after
abbrev pub DownStep : Type 0 → Type 0 → Type 0 → Type 0 → Type 0 → Type 1
DownStep S N C R E = S → C → N → Walk (FoldDownContext C R) E → S → Type 0

-- up: the state before, the node, the context, the results of the children, the answer and the state after
abbrev pub UpStep : Type 0 → Type 0 → Type 0 → Type 0 → Type 0 → Type 1
UpStep S N C R E = S → N → C → List R → Walk (FoldUp R) E → S → Type 0

-- a whole fold: the state before, the context, the node, the answer and the state after
abbrev pub FoldStep : Type 0 → Type 0 → Type 0 → Type 0 → Type 0 → Type 1
FoldStep S N C R E = S → C → N → Walk (FoldUp R) E → S → Type 0

module _ {S R E : Type 0} where
  -- an error and Stop end the fold, and with a result it goes on
  abbrev pub WithResult : (R → Type 0) → Walk (FoldUp R) E → S → Walk (FoldUp R) E → S → Type 0
  WithResult GoesOn (Err e) s r t = (r ≡ Err e) × (t ≡ s)
  WithResult GoesOn (Ok (Stop x)) s r t = (r ≡ Ok (Stop x)) × (t ≡ s)
  WithResult GoesOn (Ok (Continue x)) s r t = GoesOn x

module _ {S N C R E : Type 0} where
  -- the nodes are folded in turn under one context until one answers Stop or an error; then all results go up in their order
  abbrev pub FoldsInTurn : FoldStep S N C R E → C → (S → List R → Walk (FoldUp R) E → S → Type 0) → List R → S → List N → Walk (FoldUp R) E → S → Type 0
  FoldsInTurn Each c GoesUp results s [] r t = GoesUp s results r t
  FoldsInTurn Each c GoesUp results s (n ∷ ns) r t = (q : Walk (FoldUp R) E) × (u : S) × Each s c n q u
      × WithResult (λ x. FoldsInTurn Each c GoesUp (results ++ x ∷ []) u ns r t) q u r t

  module _ (children : N → List N) (down : DownStep S N C R E) (up : UpStep S N C R E) where
    -- after down under a context: Skip gives the node's result, Stop ends the whole fold, Continue folds the children under the context that it
    -- holds, and then up gets down's own
    abbrev pub AfterDown : FoldStep S N C R E → C → N → Walk (FoldDownContext C R) E → S → Walk (FoldUp R) E → S → Type 0
    AfterDown Child c n (Err e) s r t = (r ≡ Err e) × (t ≡ s)
    AfterDown Child c n (Ok (deep.Skip x)) s r t = (r ≡ Ok (Continue x)) × (t ≡ s)
    AfterDown Child c n (Ok (deep.Stop x)) s r t = (r ≡ Ok (Stop x)) × (t ≡ s)
    AfterDown Child c n (Ok (deep.Continue inner)) s r t = FoldsInTurn Child inner (λ u results. up u n c results) [] s (children n) r t

    -- the fold of a node whose height is below the number
    abbrev pub FoldsBelow : ℕ → FoldStep S N C R E
    FoldsBelow zero s c n r t = ⊥
    FoldsBelow (suc k) s c n r t = (q : Walk (FoldDownContext C R) E) × (u : S) × down s c n q u × AfterDown (FoldsBelow k) c n q u r t

    -- the fold of a node under a context: down, the children in turn, up
    abbrev pub FoldsUnder : (N → ℕ) → FoldStep S N C R E
    FoldsUnder height s c n r t = FoldsBelow (suc (height n)) s c n r t

-- down's answer without the context
abbrev pub without_context : {C R E : Type 0} → Walk (FoldDownContext C R) E → Walk (FoldDown R) E
without_context (Err e) = Err e
without_context (Ok (deep.Skip x)) = Ok (plain.Skip x)
without_context (Ok (deep.Stop x)) = Ok (plain.Stop x)
without_context (Ok (deep.Continue c)) = Ok plain.Continue

module _ {S N R E : Type 0} where
  -- the steps of a fold without a context
  abbrev pub DownAlone : (S → N → Walk (FoldDown R) E → S → Type 0) → DownStep S N (Unit {0}) R E
  DownAlone down s c n r t = down s n (without_context r) t

  abbrev pub UpAlone : (S → N → List R → Walk (FoldUp R) E → S → Type 0) → UpStep S N (Unit {0}) R E
  UpAlone up s n c results r t = up s n results r t

  -- the fold of a node without a context
  abbrev pub Folds : (N → List N) → (S → N → Walk (FoldDown R) E → S → Type 0) → (S → N → List R → Walk (FoldUp R) E → S → Type 0) → (N → ℕ) → S → N →
      Walk (FoldUp R) E → S → Type 0
  Folds children down up height s n r t = FoldsUnder children (DownAlone down) (UpAlone up) height s tt n r t
