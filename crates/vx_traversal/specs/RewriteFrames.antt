-- The frames of a rewrite that is under way: of each node whose children are rewritten in turn what is left of it.
use Rattle.std.specs.Prelude.{◌≡◌, ℕ, ◌+◌, ◌<◌, ◌≤◌, List, [], ◌∷◌, length, drop, Ok, Err, ⊤}
use Rattle.vx_traversal.specs.declared.errors.WalkError.TheVariants.{NoMemory, Visit}
use Rattle.vx_traversal.specs.declared.transform.Transformed.{Transformed}
use Rattle.vx_traversal.specs.declared.rewriting.RewriteFrame.{RewriteFrame}
use Rattle.vx_traversal.specs.declared.rewriting.NextRewrite.{NextRewrite}
use Rattle.vx_traversal.specs.declared.rewriting.NextRewrite.TheVariants.{Goes, Ends}
use Rattle.vx_traversal.specs.Rewrites.{Walk, RewriteStep, WithValue, MapsInTurn, Rebuilds, AfterOrder, Rewrites, with_one}

-- the children's values so far
abbrev pub so_far : {N : Type 0} → RewriteFrame N → Transformed (List N)
so_far f = record { value = f.values.items; order = f.order; changed = f.changed }

-- the frame with one more value
abbrev pub HasOneMore : {N : Type 0} → RewriteFrame N → Transformed N → RewriteFrame N → Type 0
HasOneMore f y g = (g.node ≡ f.node) × (g.changed_before ≡ f.changed_before) × (so_far g ≡ with_one (so_far f) y)

-- each frame has fewer values than its node has children, and the last has no more
abbrev pub FramesFit : {N : Type 0} → (N → List N) → List (RewriteFrame N) → RewriteFrame N → Type 0
FramesFit children [] f = length f.values.items ≤ length (children f.node)
FramesFit children (g ∷ gs) f = (length g.values.items < length (children g.node)) × FramesFit children gs f

-- the same where the rewrite goes on
abbrev pub NextFits : {N : Type 0} → (N → List N) → List (RewriteFrame N) → NextRewrite N → Type 0
NextFits children fs (Ends x) = ⊤
NextFits children fs (Goes f) = FramesFit children fs f

module _ {S N E : Type 0} (children : N → List N) (is_with : N → List N → N → Type 0) (down up : RewriteStep S N E) where
  -- after the children: the node is rebuilt, and goes up or stands
  abbrev pub Finishes : RewriteFrame N → Walk (Transformed (List N)) E → S → Walk (Transformed N) E → S → Type 0
  Finishes f m w r t =
      (d : Walk (Transformed N) E) × Rebuilds is_with f.node m d
      × WithValue (λ y. AfterOrder children is_with down up y.order f.changed_before y w r t) d w r t

  module _ (height : N → ℕ) where
    -- the children of a frame from a place on, after these values, and then the node
    abbrev pub FromPlace : RewriteFrame N → ℕ → Transformed (List N) → S → Walk (Transformed N) E → S → Type 0
    FromPlace f i values s r t =
        (m : Walk (Transformed (List N)) E) × (w : S)
        × MapsInTurn (Rewrites children is_with down up height) values s (drop i (children f.node)) m w × Finishes f m w r t

    -- what is left of a frame
    abbrev pub FrameLeft : RewriteFrame N → S → Walk (Transformed N) E → S → Type 0
    FrameLeft f s r t = FromPlace f (length f.values.items) (so_far f) s r t

    -- what is left of a frame once its next child has this answer
    abbrev pub ChildAnswered : RewriteFrame N → Walk (Transformed N) E → S → Walk (Transformed N) E → S → Type 0
    ChildAnswered f q u r t =
        (m : Walk (Transformed (List N)) E) × (w : S)
        × WithValue
        (λ y. MapsInTurn (Rewrites children is_with down up height) (with_one (so_far f) y) u (drop (length f.values.items + 1) (children f.node)) m w)
        q u m w
        × Finishes f m w r t

    -- what is left of frames, the outermost first, where this is left below them
    abbrev pub FramesLeft : List (RewriteFrame N) → (Walk (Transformed N) E → S → Type 0) → Walk (Transformed N) E → S → Type 0
    FramesLeft [] Below r t = Below r t
    FramesLeft (f ∷ fs) Below r t = (q : Walk (Transformed N) E) × (u : S) × FramesLeft fs Below q u × ChildAnswered f q u r t

    -- the step of a rewrite from a frame below others: what is left after it was left before it
    abbrev pub StepsOn : List (RewriteFrame N) → RewriteFrame N → S → Walk (NextRewrite N) E → List (RewriteFrame N) → S → Type 0
    StepsOn fs f s (Err NoMemory) gs t = ⊤
    StepsOn fs f s (Err (Visit e)) gs t = FramesLeft fs (FrameLeft f s) (Err (Visit e)) t
    StepsOn fs f s (Ok (Ends x)) gs t = FramesLeft fs (FrameLeft f s) (Ok x) t
    StepsOn fs f s (Ok (Goes g)) gs t = (r : Walk (Transformed N) E) (u : S) → FramesLeft gs (FrameLeft g t) r u → FramesLeft fs (FrameLeft f s) r u
