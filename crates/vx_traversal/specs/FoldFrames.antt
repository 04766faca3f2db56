-- The frames of a fold that is under way: of each node whose children are folded in turn what is left of it.
use Rattle.std.specs.Prelude.{◌≡◌, ℕ, ◌+◌, List, [], ◌∷◌, ◌++◌, length, drop, Ok, Err, ⊤}
use Rattle.vx_traversal.specs.declared.errors.WalkError.TheVariants.{NoMemory, Visit}
use Rattle.vx_traversal.specs.declared.fold.FoldUp.{FoldUp}
use Rattle.vx_traversal.specs.declared.folding.FoldFrame.{FoldFrame}
use Rattle.vx_traversal.specs.declared.folding.NextFold.{NextFold}
use Rattle.vx_traversal.specs.declared.folding.NextFold.TheVariants.{Goes, Ends}
use Rattle.vx_traversal.specs.Rewrites.{Walk}
use Rattle.vx_traversal.specs.Folds.{DownStep, UpStep, FoldsInTurn, FoldsUnder, WithResult}

-- the context of a node below these frames, the outermost first: its parent's for the children, or the whole fold's
abbrev pub context_below : {N C R : Type 0} → C → List (FoldFrame N C R) → C
context_below c [] = c
context_below c (f ∷ fs) = context_below f.inner fs

-- the frame with one more result
abbrev pub HasOneMore : {N C R : Type 0} → FoldFrame N C R → R → FoldFrame N C R → Type 0
HasOneMore f x g = (g.node ≡ f.node) × (g.inner ≡ f.inner) × (g.results.items ≡ f.results.items ++ x ∷ [])

module _ {S N C R E : Type 0} (children : N → List N) (down : DownStep S N C R E) (up : UpStep S N C R E) (height : N → ℕ) where
  -- the children of a frame from a place on, after these results, and then up under the context of its node
  abbrev pub FromPlace : C → FoldFrame N C R → ℕ → List R → S → Walk (FoldUp R) E → S → Type 0
  FromPlace c f i results s r t =
      FoldsInTurn (FoldsUnder children down up height) f.inner (λ u gathered. up u f.node c gathered) results s (drop i (children f.node)) r t

  -- what is left of a frame
  abbrev pub FrameLeft : C → FoldFrame N C R → S → Walk (FoldUp R) E → S → Type 0
  FrameLeft c f s r t = FromPlace c f (length f.results.items) f.results.items s r t

  -- what is left of a frame once its next child has this answer
  abbrev pub ChildAnswered : C → FoldFrame N C R → Walk (FoldUp R) E → S → Walk (FoldUp R) E → S → Type 0
  ChildAnswered c f q u r t = WithResult (λ x. FromPlace c f (length f.results.items + 1) (f.results.items ++ x ∷ []) u r t) q u r t

  -- what is left of frames, the outermost first, where this is left below them
  abbrev pub FramesLeft : C → List (FoldFrame N C R) → (C → Walk (FoldUp R) E → S → Type 0) → Walk (FoldUp R) E → S → Type 0
  FramesLeft c [] Below r t = Below c r t
  FramesLeft c (f ∷ fs) Below r t = (q : Walk (FoldUp R) E) × (u : S) × FramesLeft f.inner fs Below q u × ChildAnswered c f q u r t

  -- the step of a fold from a frame below others: what is left after it was left before it
  abbrev pub StepsOn : C → List (FoldFrame N C R) → FoldFrame N C R → S → Walk (NextFold N C R) E → List (FoldFrame N C R) → S → Type 0
  StepsOn c fs f s (Err NoMemory) gs t = ⊤
  StepsOn c fs f s (Err (Visit e)) gs t = FramesLeft c fs (λ d. FrameLeft d f s) (Err (Visit e)) t
  StepsOn c fs f s (Ok (Ends x)) gs t = FramesLeft c fs (λ d. FrameLeft d f s) (Ok x) t
  StepsOn c fs f s (Ok (Goes g)) gs t =
      (r : Walk (FoldUp R) E) (u : S) → FramesLeft c gs (λ d. FrameLeft d g t) r u → FramesLeft c fs (λ d. FrameLeft d f s) r u
