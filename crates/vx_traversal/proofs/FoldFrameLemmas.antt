-- What is left of a fold's frames, after each step.
use Rattle.std.specs.Prelude.{◌≡◌, ℕ, zero, suc, ◌+◌, ◌<◌, ◌≤◌, List, [], ◌∷◌, ◌++◌, Ok, Err, Some, slice_get, Contains, length, drop}
use Rattle.std.proofs.Common.{refl, sym, ap, subst, ◌∙◌, arith, slice_index_or}
use Rattle.std.proofs.lemmas.List.{length-append}
use Rattle.vx_traversal.specs.declared.errors.WalkError.{WalkError}
use Rattle.vx_traversal.specs.declared.fold.FoldDownContext.TheVariants as deep
use Rattle.vx_traversal.specs.declared.fold.FoldUp.{FoldUp}
use Rattle.vx_traversal.specs.declared.fold.FoldUp.TheVariants.{Continue, Stop}
use Rattle.vx_traversal.specs.declared.errors.WalkError.TheVariants.{NoMemory, Visit}
use Rattle.vx_traversal.specs.declared.folding.FoldFrame.{FoldFrame}
use Rattle.vx_traversal.specs.declared.folding.NextFold.{NextFold}
use Rattle.vx_traversal.specs.Rewrites.{Walk, UnlessNoMemory}
use Rattle.vx_traversal.specs.Folds.{DownStep, UpStep, FoldsInTurn, FoldsUnder}
use Rattle.vx_traversal.specs.FoldFrames.{context_below, HasOneMore, FromPlace, FrameLeft, ChildAnswered, FramesLeft, StepsOn}
use Rattle.vx_traversal.proofs.FoldLemmas.{FoldsInTurn-end, FoldsInTurn-error, FoldsInTurn-stop, FoldsInTurn-next, FoldsInTurn-at, FoldsUnder-after}

-- the context below the last frame
context-last : {N C R : Type 0} (c : C) (fs : List (FoldFrame N C R)) (f : FoldFrame N C R) → context_below c (fs ++ f ∷ []) ≡ f.inner
context-last c [] f = refl
context-last c (g ∷ fs) f = context-last g.inner fs f

-- the same where it is found by its place
pub context-index : {N C R : Type 0} (c : C) (fs : List (FoldFrame N C R)) (i : ℕ) (d : FoldFrame N C R) → i + 1 ≡ length fs → context_below c fs ≡ (slice_index_or fs i d).inner
context-index c [] i d is = absurd (omega (arith, is))
context-index c (g ∷ []) zero d is = refl
context-index c (g ∷ []) (suc i) d is = absurd (omega (arith, is))
context-index c (g ∷ h ∷ fs) zero d is = absurd (omega (arith, is))
context-index c (g ∷ h ∷ fs) (suc i) d is = context-index g.inner (h ∷ fs) i d (omega (arith, is))

drop-none : {A : Type 0} (xs : List A) → drop 0 xs ≡ xs
drop-none [] = refl
drop-none (x ∷ xs) = refl

module _ {S N C R E : Type 0} (children : N → List N) (down : DownStep S N C R E) (up : UpStep S N C R E) (height : N → ℕ) where
  -- what is left below the frames may be told otherwise
  below : (fs : List (FoldFrame N C R)) (A B : C → Walk (FoldUp R) E → S → Type 0) (c : C) →
      ((q : Walk (FoldUp R) E) (u : S) → A (context_below c fs) q u → B (context_below c fs) q u) → (r : Walk (FoldUp R) E) (t : S) →
      FramesLeft children down up height c fs A r t → FramesLeft children down up height c fs B r t
  below [] A B c h r t w = h r t w
  below (f ∷ fs) A B c h r t (q, u, left, answered) = (q, u, below fs A B f.inner h q u left, answered)

  -- an error below the frames ends them all
  error-below : (fs : List (FoldFrame N C R)) (A : C → Walk (FoldUp R) E → S → Type 0) (c : C) (e : WalkError E) (t : S) →
      A (context_below c fs) (Err e) t → FramesLeft children down up height c fs A (Err e) t
  error-below [] A c e t w = w
  error-below (f ∷ fs) A c e t w = (Err e, t, error-below fs A f.inner e t w, (refl, refl))

  -- Stop does too
  stop-below : (fs : List (FoldFrame N C R)) (A : C → Walk (FoldUp R) E → S → Type 0) (c : C) (x : R) (t : S) →
      A (context_below c fs) (Ok (Stop x)) t → FramesLeft children down up height c fs A (Ok (Stop x)) t
  stop-below [] A c x t w = w
  stop-below (f ∷ fs) A c x t w = (Ok (Stop x), t, stop-below fs A f.inner x t w, (refl, refl))

  -- what is left of one frame
  abbrev OfOne : (C → Walk (FoldUp R) E → S → Type 0) → FoldFrame N C R → C → Walk (FoldUp R) E → S → Type 0
  OfOne A f c r t = (q : Walk (FoldUp R) E) × (u : S) × A f.inner q u × ChildAnswered children down up height c f q u r t

  -- the last frame by itself, and back
  last-out : (fs : List (FoldFrame N C R)) (f : FoldFrame N C R) (A : C → Walk (FoldUp R) E → S → Type 0) (c : C) (r : Walk (FoldUp R) E) (t : S) →
      FramesLeft children down up height c (fs ++ f ∷ []) A r t → FramesLeft children down up height c fs (OfOne A f) r t
  last-out [] f A c r t w = w
  last-out (g ∷ fs) f A c r t (q, u, left, answered) = (q, u, last-out fs f A g.inner q u left, answered)

  last-in : (fs : List (FoldFrame N C R)) (f : FoldFrame N C R) (A : C → Walk (FoldUp R) E → S → Type 0) (c : C) (r : Walk (FoldUp R) E) (t : S) →
      FramesLeft children down up height c fs (OfOne A f) r t → FramesLeft children down up height c (fs ++ f ∷ []) A r t
  last-in [] f A c r t w = w
  last-in (g ∷ fs) f A c r t (q, u, left, answered) = (q, u, last-in fs f A g.inner q u left, answered)

  -- what is left of a frame after one more result
  one-more : (c : C) (f g : FoldFrame N C R) (x : R) (s : S) (r : Walk (FoldUp R) E) (t : S) → HasOneMore f x g →
      FrameLeft children down up height c g s r t → FromPlace children down up height c f (length f.results.items + 1) (f.results.items ++ x ∷ []) s r t
  one-more c f g x s r t (same, under, items) w =
      let P : ℕ → Type 0 = λ i. FromPlace children down up height c f i (f.results.items ++ x ∷ []) s r t in
      subst P (length-append f.results.items (x ∷ []))
      (let Q : List R → Type 0 = λ rs. FromPlace children down up height c f (length rs) rs s r t in
      subst Q items
      (let I : C → Type 0 = λ d. FoldsInTurn (FoldsUnder children down up height) d (λ u gathered. up u f.node c gathered) g.results.items s (drop (length g.results.items) (children f.node)) r t in
      subst I under
      (let M : N → Type 0 = λ n. FoldsInTurn (FoldsUnder children down up height) g.inner (λ u gathered. up u n c gathered) g.results.items s (drop (length g.results.items) (children n)) r t in subst M same w)))

  -- an error of the fold is one of its step
  pub errs : (fs gs : List (FoldFrame N C R)) (f : FoldFrame N C R) (s : S) (c : C) (e : WalkError E) (q : Walk (NextFold N C R) E) (t : S) → q ≡ Err e →
      FramesLeft children down up height c fs (λ d. FrameLeft children down up height d f s) (Err e) t → StepsOn children down up height c fs f s q gs t
  errs fs gs f s c NoMemory q t is left = let P : Walk (NextFold N C R) E → Type 0 = λ p. StepsOn children down up height c fs f s p gs t in subst P (sym is) tt
  errs fs gs f s c (Visit e) q t is left = let P : Walk (NextFold N C R) E → Type 0 = λ p. StepsOn children down up height c fs f s p gs t in subst P (sym is) left

  -- an error of a step is one of the fold
  pub ends-errs : (fs gs : List (FoldFrame N C R)) (f : FoldFrame N C R) (s : S) (c : C) (e : WalkError E) (q : Walk (FoldUp R) E) (t : S) (P : Walk (FoldUp R) E → Type 0) → q ≡ Err e →
      StepsOn children down up height c fs f s (Err e) gs t → (FramesLeft children down up height c fs (λ d. FrameLeft children down up height d f s) (Err e) t → P (Err e)) → UnlessNoMemory q (P q)
  ends-errs fs gs f s c NoMemory q t P is step h = subst (λ (p : Walk (FoldUp R) E). UnlessNoMemory p (P p)) (sym is) tt
  ends-errs fs gs f s c (Visit e) q t P is step h = subst (λ (p : Walk (FoldUp R) E). UnlessNoMemory p (P p)) (sym is) (h step)

  -- the next child of a frame
  module _ (lower : (n c : N) → Contains (children n) c → height c < height n) (fs : List (FoldFrame N C R)) (f : FoldFrame N C R) (s : S) (n : N) (at : slice_get (children f.node) (length f.results.items) ≡ Some n) (u : S) (c : C) where
    -- where its down errs, the fold ends
    pub child-errs : (e : WalkError E) → down s f.inner n (Err e) u → FramesLeft children down up height c fs (λ d. FrameLeft children down up height d f s) (Err e) u
    child-errs e step =
        error-below fs (λ d. FrameLeft children down up height d f s) c e u
        (FoldsInTurn-error (FoldsUnder children down up height) f.inner (λ v gathered. up v f.node (context_below c fs) gathered) (children f.node) (length f.results.items) f.results.items s n at (Err e) u (Err e, u, step, (refl, refl)) e (Err e) refl refl)

    -- where its down stops, the fold ends too
    pub child-stops : (x : R) → down s f.inner n (Ok (deep.Stop x)) u → FramesLeft children down up height c fs (λ d. FrameLeft children down up height d f s) (Ok (Stop x)) u
    child-stops x step =
        stop-below fs (λ d. FrameLeft children down up height d f s) c x u
        (FoldsInTurn-stop (FoldsUnder children down up height) f.inner (λ v gathered. up v f.node (context_below c fs) gathered) (children f.node) (length f.results.items) f.results.items s n at (Ok (Stop x)) u (Ok (deep.Stop x), u, step, (refl, refl)) x refl)

    -- where its down skips, the frame has one more result
    pub child-skips : (x : R) (g : FoldFrame N C R) → down s f.inner n (Ok (deep.Skip x)) u → HasOneMore f x g → (r : Walk (FoldUp R) E) (t : S) →
        FramesLeft children down up height c fs (λ d. FrameLeft children down up height d g u) r t → FramesLeft children down up height c fs (λ d. FrameLeft children down up height d f s) r t
    child-skips x g step more =
        below fs (λ d. FrameLeft children down up height d g u) (λ d. FrameLeft children down up height d f s) c
        (λ q v w. FoldsInTurn-next (FoldsUnder children down up height) f.inner (λ y gathered. up y f.node (context_below c fs) gathered) (children f.node) (length f.results.items) f.results.items s n at (Ok (Continue x)) u (Ok (deep.Skip x), u, step, (refl, refl)) x (f.results.items ++ x ∷ []) refl refl q v
        (one-more (context_below c fs) f g x u q v more w))

    -- where its down goes on, a frame of its own is below the frame
    pub child-goes : (inner : C) (g : FoldFrame N C R) (gs : List (FoldFrame N C R)) → down s f.inner n (Ok (deep.Continue inner)) u → g.node ≡ n → g.inner ≡ inner → g.results.items ≡ [] → gs ≡ fs ++ f ∷ [] →
        (r : Walk (FoldUp R) E) (t : S) → FramesLeft children down up height c gs (λ d. FrameLeft children down up height d g u) r t → FramesLeft children down up height c fs (λ d. FrameLeft children down up height d f s) r t
    child-goes inner g gs step same under none pushed r t left =
        let A : C → Walk (FoldUp R) E → S → Type 0 = λ d. FrameLeft children down up height d g u in
        let through : (q : Walk (FoldUp R) E) (v : S) → OfOne A f (context_below c fs) q v → FrameLeft children down up height (context_below c fs) f s q v =
        λ q v (p, w, whole, answered).
        let turns : FoldsInTurn (FoldsUnder children down up height) inner (λ y gathered. up y n f.inner gathered) [] u (children n) p w = begun p w whole in
        FoldsInTurn-at (FoldsUnder children down up height) f.inner (λ y gathered. up y f.node (context_below c fs) gathered) (children f.node) (length f.results.items) f.results.items s n at p w
        (FoldsUnder-after children down up height lower s f.inner n (deep.Continue inner) u p w step turns) q v answered in
        below fs (OfOne A f) (λ d. FrameLeft children down up height d f s) c through r t (last-out fs f A c r t (subst (λ hs. FramesLeft children down up height c hs A r t) pushed left))
      where
        begun : (p : Walk (FoldUp R) E) (w : S) → FrameLeft children down up height f.inner g u p w → FoldsInTurn (FoldsUnder children down up height) inner (λ y gathered. up y n f.inner gathered) [] u (children n) p w
        begun p w whole =
            let P : List N → Type 0 = λ ns. FoldsInTurn (FoldsUnder children down up height) inner (λ y gathered. up y n f.inner gathered) [] u ns p w in
            subst P (drop-none (children n))
            (let Q : List R → Type 0 = λ rs. FoldsInTurn (FoldsUnder children down up height) inner (λ y gathered. up y n f.inner gathered) rs u (drop (length rs) (children n)) p w in
            subst Q none
            (let I : C → Type 0 = λ d. FoldsInTurn (FoldsUnder children down up height) d (λ y gathered. up y n f.inner gathered) g.results.items u (drop (length g.results.items) (children n)) p w in
            subst I under
            (let M : N → Type 0 = λ m. FoldsInTurn (FoldsUnder children down up height) g.inner (λ y gathered. up y m f.inner gathered) g.results.items u (drop (length g.results.items) (children m)) p w in subst M same whole)))

  -- up on a frame whose children all have results
  module _ (fs hs : List (FoldFrame N C R)) (same : hs ≡ fs) (f : FoldFrame N C R) (s : S) (past : length (children f.node) ≤ length f.results.items) (u : S) (c : C) where
    -- what is left of the frame is its up
    pub up-left : (q : Walk (FoldUp R) E) → up s f.node (context_below c hs) f.results.items q u → FrameLeft children down up height (context_below c fs) f s q u
    up-left q step = FoldsInTurn-end (FoldsUnder children down up height) f.inner (λ v gathered. up v f.node (context_below c fs) gathered) (children f.node) (length f.results.items) f.results.items s q u past (subst (λ ks. up s f.node (context_below c ks) f.results.items q u) same step)

    -- where up errs, the fold ends
    pub up-errs : (e : WalkError E) → up s f.node (context_below c hs) f.results.items (Err e) u → FramesLeft children down up height c fs (λ d. FrameLeft children down up height d f s) (Err e) u
    up-errs e step = error-below fs (λ d. FrameLeft children down up height d f s) c e u (up-left (Err e) step)

    -- where up stops, the fold ends too
    pub up-stops : (x : R) → up s f.node (context_below c hs) f.results.items (Ok (Stop x)) u → FramesLeft children down up height c fs (λ d. FrameLeft children down up height d f s) (Ok (Stop x)) u
    up-stops x step = stop-below fs (λ d. FrameLeft children down up height d f s) c x u (up-left (Ok (Stop x)) step)

    -- below no frame, what up answers is the whole fold's answer
    pub up-ends : (q : Walk (FoldUp R) E) → fs ≡ [] → up s f.node (context_below c hs) f.results.items q u → FramesLeft children down up height c fs (λ d. FrameLeft children down up height d f s) q u
    up-ends q none step =
        let P : List (FoldFrame N C R) → Type 0 = λ hs. FramesLeft children down up height c hs (λ d. FrameLeft children down up height d f s) q u in
        let Q : List (FoldFrame N C R) → Type 0 = λ hs. FrameLeft children down up height (context_below c hs) f s q u in
        subst P (sym none) (subst Q none (up-left q step))

    -- the frame above has one more result
    pub up-goes : (x : R) (g h : FoldFrame N C R) (gs : List (FoldFrame N C R)) → fs ≡ gs ++ g ∷ [] → HasOneMore g x h → up s f.node (context_below c hs) f.results.items (Ok (Continue x)) u → (r : Walk (FoldUp R) E) (t : S) →
        FramesLeft children down up height c gs (λ d. FrameLeft children down up height d h u) r t → FramesLeft children down up height c fs (λ d. FrameLeft children down up height d f s) r t
    up-goes x g h gs popped more step r t left =
        let A : C → Walk (FoldUp R) E → S → Type 0 = λ d. FrameLeft children down up height d f s in
        let under : context_below c fs ≡ g.inner = ap (context_below c) popped ∙ context-last c gs g in
        let P : List (FoldFrame N C R) → Type 0 = λ hs. FramesLeft children down up height c hs A r t in
        let done : A g.inner (Ok (Continue x)) u = (let Q : C → Type 0 = λ d. FrameLeft children down up height d f s (Ok (Continue x)) u in subst Q under (up-left (Ok (Continue x)) step)) in
        subst P (sym popped)
        (last-in gs g A c r t
        (below gs (λ d. FrameLeft children down up height d h u) (OfOne A g) c (λ q v w. (Ok (Continue x), u, done, one-more (context_below c gs) g h x u q v more w)) r t left))
