-- What is left of a rewrite's frames, after each step.
use Rattle.std.specs.Prelude.{◌≡◌, ℕ, ◌+◌, ◌<◌, ◌≤◌, List, [], ◌∷◌, ◌++◌, Bool, false, true, ◌||◌, Ok, Err, Some, slice_get, Contains, length, drop, Result, IfOk}
use Rattle.std.proofs.Common.{refl, sym, ap, subst, ◌∙◌, arith}
use Rattle.std.proofs.lemmas.List.{length-append}
use Rattle.vx_traversal.specs.declared.errors.WalkError.{WalkError}
use Rattle.vx_traversal.specs.declared.order.TraversalOrder.TheVariants.{Skip, Stop, Continue}
use Rattle.vx_traversal.specs.declared.transform.Transformed.{Transformed}
use Rattle.vx_traversal.specs.declared.errors.WalkError.TheVariants.{NoMemory, Visit}
use Rattle.vx_traversal.specs.declared.rewriting.RewriteFrame.{RewriteFrame}
use Rattle.vx_traversal.specs.declared.rewriting.NextRewrite.{NextRewrite}
use Rattle.vx_traversal.specs.Rewrites.{Walk, RewriteStep, UnlessNoMemory, WithValue, MapsInTurn, Rebuilds, GoesUp, AfterOrder, FromOrder, Rewrites, RewritesBelow, with_one, none_yet}
use Rattle.vx_traversal.specs.RewriteFrames.{so_far, HasOneMore, FramesFit, Finishes, FromPlace, FrameLeft, ChildAnswered, FramesLeft, StepsOn}
use Rattle.vx_traversal.proofs.RewriteLemmas.{MapsInTurn-at, MapsInTurn-end, unless_stopped, kept, Rewrites-through, unless, unless-map}

-- what fits, after one more value in the last frame
one-fits : {N : Type 0} (children : N → List N) (f g : RewriteFrame N) (y : Transformed N) → HasOneMore f y g → length f.values.items < length (children f.node) → length g.values.items ≤ length (children g.node)
one-fits children f g y (same, before, values) fewer =
    let more : length g.values.items ≡ length f.values.items + 1 = ap (λ m. length m.value) values ∙ length-append f.values.items (y.value ∷ []) in
    let all : length (children g.node) ≡ length (children f.node) = ap (λ n. length (children n)) same in
    omega (arith, more, all, fewer)

last-fits : {N : Type 0} (children : N → List N) (fs : List (RewriteFrame N)) (f g : RewriteFrame N) → FramesFit children fs f → length g.values.items ≤ length (children g.node) → FramesFit children fs g
last-fits children [] f g fits le = le
last-fits children (h ∷ fs) f g (fewer, fits) le = (fewer, last-fits children fs f g fits le)

pub no-more : {N : Type 0} (children : N → List N) (fs : List (RewriteFrame N)) (f : RewriteFrame N) → FramesFit children fs f → length f.values.items ≤ length (children f.node)
no-more children [] f fits = fits
no-more children (h ∷ fs) f (fewer, fits) = no-more children fs f fits

pub more-fits : {N : Type 0} (children : N → List N) (fs : List (RewriteFrame N)) (f g : RewriteFrame N) (y : Transformed N) → FramesFit children fs f → length f.values.items < length (children f.node) → HasOneMore f y g → FramesFit children fs g
more-fits children fs f g y fits fewer more = last-fits children fs f g fits (one-fits children f g y more fewer)

-- the frame that a rewrite begins with
pub first-fits : {N : Type 0} (children : N → List N) (fs : List (RewriteFrame N)) (g : RewriteFrame N) → fs ≡ [] → so_far g ≡ none_yet → FramesFit children fs g
first-fits children fs g alone empty =
    let none : length g.values.items ≡ 0 = ap (λ m. length m.value) empty in
    subst (λ hs. FramesFit children hs g) (sym alone) (omega (arith, none))

-- with a new frame behind
pub pushed-fits : {N : Type 0} (children : N → List N) (fs gs : List (RewriteFrame N)) (f g : RewriteFrame N) → FramesFit children fs f → length f.values.items < length (children f.node) → gs ≡ fs ++ f ∷ [] → g.values.items ≡ [] → FramesFit children gs g
pushed-fits {N} children fs gs f g fits fewer pushed none = subst (λ hs. FramesFit children hs g) (sym pushed) (go fs fits)
  where
    go : (hs : List (RewriteFrame N)) → FramesFit children hs f → FramesFit children (hs ++ f ∷ []) g
    go [] h = (fewer, let zeroth : length g.values.items ≡ 0 = ap length none in omega (arith, zeroth))
    go (k ∷ hs) (less, h) = (less, go hs h)

-- with the last frame gone and one more value in the one before it
pub popped-fits : {N : Type 0} (children : N → List N) (fs gs : List (RewriteFrame N)) (f g h : RewriteFrame N) (y : Transformed N) → FramesFit children fs f → fs ≡ gs ++ g ∷ [] → HasOneMore g y h → FramesFit children gs h
popped-fits {N} children fs gs f g h y fits popped more = go gs (subst (λ hs. FramesFit children hs f) popped fits)
  where
    go : (hs : List (RewriteFrame N)) → FramesFit children (hs ++ g ∷ []) f → FramesFit children hs h
    go [] (less, k) = one-fits children g h y more less
    go (k ∷ hs) (less, rest) = (less, go hs rest)

-- what is said of a value is said of an error
pub of-error : {T E : Type 0} (q : Result T E) (e : E) (P : T → Type 0) → q ≡ Err e → IfOk q P
of-error {T} {E} q e P is = subst (λ (r : Result T E). IfOk r P) (sym is) tt

or-false : (b : Bool) → b ≡ (b || false)
or-false false = refl
or-false true = refl

drop-none : {A : Type 0} (xs : List A) → drop 0 xs ≡ xs
drop-none [] = refl
drop-none (x ∷ xs) = refl

module _ {S N E : Type 0} (children : N → List N) (is_with : N → List N → N → Type 0) (down up : RewriteStep S N E) (height : N → ℕ) where
  -- a rewrite whose down errs, stops or skips
  pub down-errs : (s : S) (n : N) (e : WalkError E) (u : S) → down s n (Err e) u → Rewrites children is_with down up height s n (Err e) u
  down-errs s n e u step = (Err e, u, step, (refl, refl))

  pub down-stops : (s : S) (n : N) (d : Transformed N) (u : S) → down s n (Ok d) u → d.order ≡ Stop → Rewrites children is_with down up height s n (Ok d) u
  down-stops s n d u step is = (Ok d, u, step, subst (λ o. FromOrder children is_with down up (RewritesBelow children is_with down up (height n)) o d u (Ok d) u) (sym is) (refl, refl))

  pub down-skips : (s : S) (n : N) (d : Transformed N) (u : S) (r : Walk (Transformed N) E) (t : S) → down s n (Ok d) u → d.order ≡ Skip → GoesUp up d.changed u d.value r t → Rewrites children is_with down up height s n r t
  down-skips s n d u r t step is goes = (Ok d, u, step, subst (λ o. FromOrder children is_with down up (RewritesBelow children is_with down up (height n)) o d u r t) (sym is) goes)

  -- a rewrite whose down gives a node without children
  pub down-leaf : (s : S) (n : N) (d : Transformed N) (u : S) (r : Walk (Transformed N) E) (t : S) → down s n (Ok d) u → d.order ≡ Continue → children d.value ≡ [] → GoesUp up d.changed u d.value r t → Rewrites children is_with down up height s n r t
  down-leaf s n d u r t step is none goes =
      let C : List N → Type 0 = λ cs. MapsInTurn (RewritesBelow children is_with down up (height n)) none_yet u cs (Ok none_yet) u in
      let same : Walk (Transformed N) E = Ok (record { value = d.value; order = Continue; changed = false }) in
      let past : GoesUp up (d.changed || false) u d.value r t = subst (λ b. GoesUp up b u d.value r t) (or-false d.changed) goes in (
        Ok d,
        u,
        step,
        subst (λ o. FromOrder children is_with down up (RewritesBelow children is_with down up (height n)) o d u r t) (sym is)
            (same, u, (Ok none_yet, subst C (sym none) (refl, refl), (d.value, refl, refl)), past),
      )

  -- what is left of a new frame is what follows its node's down
  pub begun : (d : Transformed N) (g : RewriteFrame N) (u : S) (p : Walk (Transformed N) E) (w : S) → g.node ≡ d.value → g.changed_before ≡ d.changed → g.values.items ≡ [] → so_far g ≡ none_yet →
      FrameLeft children is_with down up height g u p w → FromOrder children is_with down up (Rewrites children is_with down up height) Continue d u p w
  begun d g u p w same before none empty (m, v, turns, (e, rebuilt, after)) =
      let L : List N → Type 0 = λ cs. MapsInTurn (Rewrites children is_with down up height) none_yet u cs m v in
      let F : Transformed (List N) → Type 0 = λ z. MapsInTurn (Rewrites children is_with down up height) z u (drop (length z.value) (children d.value)) m v in
      let C : N → Type 0 = λ k. MapsInTurn (Rewrites children is_with down up height) (so_far g) u (drop (length g.values.items) (children k)) m v in
      let R : N → Type 0 = λ k. Rebuilds is_with k m e in
      let A : Bool → Type 0 = λ b. WithValue (λ z. AfterOrder children is_with down up z.order b z v p w) e v p w in
      (e, v, (m, subst L (drop-none (children d.value)) (subst F empty (subst C same turns)), subst R same rebuilt), subst A before after)

  -- down with Continue, and what follows it
  pub after-down : (lower : (n c : N) → Contains (children n) c → height c < height n) (s : S) (n : N) (d : Transformed N) (u : S) (r : Walk (Transformed N) E) (t : S) →
      down s n (Ok d) u → d.order ≡ Continue → (d.order ≡ Continue → height d.value ≤ height n) → FromOrder children is_with down up (Rewrites children is_with down up height) Continue d u r t →
      Rewrites children is_with down up height s n r t
  after-down lower s n d u r t step goes no_higher (q, v, mapped, after) = Rewrites-through children is_with down up height lower s n d u q v r t step goes no_higher mapped after

  -- the frame that a rewrite begins with
  pub first-frame : (d : Transformed N) (fs : List (RewriteFrame N)) (g : RewriteFrame N) (u : S) (p : Walk (Transformed N) E) (w : S) → fs ≡ [] → g.node ≡ d.value → g.changed_before ≡ d.changed → so_far g ≡ none_yet →
      FramesLeft children is_with down up height fs (FrameLeft children is_with down up height g u) p w → FromOrder children is_with down up (Rewrites children is_with down up height) Continue d u p w
  first-frame d fs g u p w alone same before empty left =
      begun d g u p w same before (ap (λ m. m.value) empty) empty (subst (λ hs. FramesLeft children is_with down up height hs (FrameLeft children is_with down up height g u) p w) alone left)

  -- what is left below the frames may be told otherwise
  below : (fs : List (RewriteFrame N)) (A B : Walk (Transformed N) E → S → Type 0) → ((q : Walk (Transformed N) E) (u : S) → A q u → B q u) → (r : Walk (Transformed N) E) (t : S) →
      FramesLeft children is_with down up height fs A r t → FramesLeft children is_with down up height fs B r t
  below [] A B h r t w = h r t w
  below (f ∷ fs) A B h r t (q, u, left, answered) = (q, u, below fs A B h q u left, answered)

  -- an error below the frames ends them all
  error-below : (fs : List (RewriteFrame N)) (A : Walk (Transformed N) E → S → Type 0) (e : WalkError E) (t : S) → A (Err e) t → FramesLeft children is_with down up height fs A (Err e) t
  error-below [] A e t w = w
  error-below (f ∷ fs) A e t w = (Err e, t, error-below fs A e t w, (Err e, t, (refl, refl), (Err e, refl, (refl, refl))))

  -- what is left of one frame
  abbrev OfOne : (Walk (Transformed N) E → S → Type 0) → RewriteFrame N → Walk (Transformed N) E → S → Type 0
  OfOne A f r t = (q : Walk (Transformed N) E) × (u : S) × A q u × ChildAnswered children is_with down up height f q u r t

  -- the last frame by itself, and back
  last-out : (fs : List (RewriteFrame N)) (f : RewriteFrame N) (A : Walk (Transformed N) E → S → Type 0) (r : Walk (Transformed N) E) (t : S) →
      FramesLeft children is_with down up height (fs ++ f ∷ []) A r t → FramesLeft children is_with down up height fs (OfOne A f) r t
  last-out [] f A r t w = w
  last-out (g ∷ fs) f A r t (q, u, left, answered) = (q, u, last-out fs f A q u left, answered)

  last-in : (fs : List (RewriteFrame N)) (f : RewriteFrame N) (A : Walk (Transformed N) E → S → Type 0) (r : Walk (Transformed N) E) (t : S) →
      FramesLeft children is_with down up height fs (OfOne A f) r t → FramesLeft children is_with down up height (fs ++ f ∷ []) A r t
  last-in [] f A r t w = w
  last-in (g ∷ fs) f A r t (q, u, left, answered) = (q, u, last-in fs f A q u left, answered)

  -- what is left of a frame after one more value
  one-more : (f g : RewriteFrame N) (y : Transformed N) (s : S) (r : Walk (Transformed N) E) (t : S) → HasOneMore f y g →
      FrameLeft children is_with down up height g s r t → FromPlace children is_with down up height f (length f.values.items + 1) (with_one (so_far f) y) s r t
  one-more f g y s r t (same, before, values) w =
      let P : ℕ → Type 0 = λ i. FromPlace children is_with down up height f i (with_one (so_far f) y) s r t in
      subst P (length-append f.values.items (y.value ∷ []))
      (let Q : Transformed (List N) → Type 0 = λ m. FromPlace children is_with down up height f (length m.value) m s r t in
      subst Q values (in_frame s r t w))
    where
      in_frame : (s : S) (r : Walk (Transformed N) E) (t : S) → FrameLeft children is_with down up height g s r t → FromPlace children is_with down up height f (length g.values.items) (so_far g) s r t
      in_frame s r t (m, w, turns, (d, rebuilt, after)) =
          let C : N → Type 0 = λ n. MapsInTurn (Rewrites children is_with down up height) (so_far g) s (drop (length g.values.items) (children n)) m w in
          let R : N → Type 0 = λ n. Rebuilds is_with n m d in
          let A : Bool → Type 0 = λ b. WithValue (λ z. AfterOrder children is_with down up z.order b z w r t) d w r t in
          (m, w, subst C same turns, (d, subst R same rebuilt, subst A before after))

  -- an error of the rewrite is one of its step
  pub errs : (fs gs : List (RewriteFrame N)) (f : RewriteFrame N) (s : S) (e : WalkError E) (q : Walk (NextRewrite N) E) (t : S) → q ≡ Err e →
      UnlessNoMemory {T = Transformed N} (Err e) (FramesLeft children is_with down up height fs (FrameLeft children is_with down up height f s) (Err e) t) → StepsOn children is_with down up height fs f s q gs t
  errs fs gs f s NoMemory q t is left = let P : Walk (NextRewrite N) E → Type 0 = λ p. StepsOn children is_with down up height fs f s p gs t in subst P (sym is) tt
  errs fs gs f s (Visit e) q t is left = let P : Walk (NextRewrite N) E → Type 0 = λ p. StepsOn children is_with down up height fs f s p gs t in subst P (sym is) left

  -- an error of a step is one of the rewrite
  pub ends-errs : (fs gs : List (RewriteFrame N)) (f : RewriteFrame N) (s : S) (e : WalkError E) (q : Walk (Transformed N) E) (t : S) (P : Walk (Transformed N) E → Type 0) → q ≡ Err e →
      StepsOn children is_with down up height fs f s (Err e) gs t → (FramesLeft children is_with down up height fs (FrameLeft children is_with down up height f s) (Err e) t → P (Err e)) → UnlessNoMemory q (P q)
  ends-errs fs gs f s NoMemory q t P is step h = subst (λ (p : Walk (Transformed N) E). UnlessNoMemory p (P p)) (sym is) tt
  ends-errs fs gs f s (Visit e) q t P is step h = subst (λ (p : Walk (Transformed N) E). UnlessNoMemory p (P p)) (sym is) (h step)

  -- the next child of a frame
  module _ (fs : List (RewriteFrame N)) (f : RewriteFrame N) (n : N) (at : slice_get (children f.node) (length f.values.items) ≡ Some n) (s : S) where
    -- after a Stop it stays as it is
    pub child-stays : (g : RewriteFrame N) → f.order ≡ Stop → HasOneMore f (record { value = n; order = f.order; changed = false }) g → (r : Walk (Transformed N) E) (t : S) →
        FramesLeft children is_with down up height fs (FrameLeft children is_with down up height g s) r t → FramesLeft children is_with down up height fs (FrameLeft children is_with down up height f s) r t
    child-stays g stopped more =
        below fs (FrameLeft children is_with down up height g s) (FrameLeft children is_with down up height f s)
        (λ q v left. through q v (one-more f g (record { value = n; order = f.order; changed = false }) s q v more left))
      where
        through : (q : Walk (Transformed N) E) (v : S) → FromPlace children is_with down up height f (length f.values.items + 1) (with_one (so_far f) (record { value = n; order = f.order; changed = false })) s q v → FrameLeft children is_with down up height f s q v
        through q v (m, w, turns, finish) = (
          m,
          w,
          MapsInTurn-at (Rewrites children is_with down up height) (children f.node) (length f.values.items) n at f.values.items f.order f.changed s (Ok (record { value = n; order = f.order; changed = false })) s m w
              (kept (Rewrites children is_with down up height) f.order stopped s n) turns,
          finish,
        )

    -- otherwise it is rewritten
    module _ (on : f.order ≡ Stop → ⊥) where
      answered : (q : Walk (Transformed N) E) (u : S) → Rewrites children is_with down up height s n q u → (r : Walk (Transformed N) E) (t : S) → ChildAnswered children is_with down up height f q u r t → FrameLeft children is_with down up height f s r t
      answered q u step r t (m, w, turns, finish) = (
        m,
        w,
        MapsInTurn-at (Rewrites children is_with down up height) (children f.node) (length f.values.items) n at f.values.items f.order f.changed s q u m w
            (unless_stopped (Rewrites children is_with down up height) f.order on s n q u step) turns,
        finish,
      )

      -- an error ends the rewrite
      child-errs : (e : WalkError E) (u : S) → Rewrites children is_with down up height s n (Err e) u → FramesLeft children is_with down up height fs (FrameLeft children is_with down up height f s) (Err e) u
      child-errs e u step = error-below fs (FrameLeft children is_with down up height f s) e u (answered (Err e) u step (Err e) u (Err e, u, (refl, refl), (Err e, refl, (refl, refl))))

      pub child-fails : (gs : List (RewriteFrame N)) (e : WalkError E) (q : Walk (NextRewrite N) E) (u : S) → q ≡ Err e → Rewrites children is_with down up height s n (Err e) u → StepsOn children is_with down up height fs f s q gs u
      child-fails gs e q u is step = errs fs gs f s e q u is (unless {T = Transformed N} (Err e) (FramesLeft children is_with down up height fs (FrameLeft children is_with down up height f s) (Err e) u) (child-errs e u step))

      -- with an answer the frame has one more value
      pub child-answers : (y : Transformed N) (g : RewriteFrame N) (u : S) → Rewrites children is_with down up height s n (Ok y) u → HasOneMore f y g → (r : Walk (Transformed N) E) (t : S) →
          FramesLeft children is_with down up height fs (FrameLeft children is_with down up height g u) r t → FramesLeft children is_with down up height fs (FrameLeft children is_with down up height f s) r t
      child-answers y g u step more =
          below fs (FrameLeft children is_with down up height g u) (FrameLeft children is_with down up height f s)
          (λ q v left. answered (Ok y) u step q v (one-more f g y u q v more left))

      -- where down goes on, a frame of its own is below the frame
      pub child-goes : (lower : (n c : N) → Contains (children n) c → height c < height n) (d : Transformed N) (u : S) (g : RewriteFrame N) (gs : List (RewriteFrame N)) →
          down s n (Ok d) u → d.order ≡ Continue → (d.order ≡ Continue → height d.value ≤ height n) → g.node ≡ d.value → g.changed_before ≡ d.changed → g.values.items ≡ [] → so_far g ≡ none_yet → gs ≡ fs ++ f ∷ [] →
          (r : Walk (Transformed N) E) (t : S) → FramesLeft children is_with down up height gs (FrameLeft children is_with down up height g u) r t → FramesLeft children is_with down up height fs (FrameLeft children is_with down up height f s) r t
      child-goes lower d u g gs step goes no_higher same before none empty pushed r t left =
          below fs (OfOne (FrameLeft children is_with down up height g u) f) (FrameLeft children is_with down up height f s) through r t
          (last-out fs f (FrameLeft children is_with down up height g u) r t (subst (λ hs. FramesLeft children is_with down up height hs (FrameLeft children is_with down up height g u) r t) pushed left))
        where
          whole : (p : Walk (Transformed N) E) (w : S) → FrameLeft children is_with down up height g u p w → Rewrites children is_with down up height s n p w
          whole p w left = after-down lower s n d u p w step goes no_higher (begun d g u p w same before none empty left)

          through : (q : Walk (Transformed N) E) (v : S) → OfOne (FrameLeft children is_with down up height g u) f q v → FrameLeft children is_with down up height f s q v
          through q v (p, w, left, rest) = answered p w (whole p w left) q v rest

  -- a frame whose children all have values
  module _ (fs : List (RewriteFrame N)) (f : RewriteFrame N) (s : S) (past : length (children f.node) ≤ length f.values.items) where
    finished : (q : Walk (Transformed N) E) (u : S) → Finishes children is_with down up f (Ok (so_far f)) s q u → FrameLeft children is_with down up height f s q u
    finished q u finish = (Ok (so_far f), s, MapsInTurn-end (Rewrites children is_with down up height) (children f.node) (length f.values.items) (so_far f) s past, finish)

    -- an error of what follows ends the rewrite
    end-errs : (e : WalkError E) (u : S) → Finishes children is_with down up f (Ok (so_far f)) s (Err e) u → FramesLeft children is_with down up height fs (FrameLeft children is_with down up height f s) (Err e) u
    end-errs e u finish = error-below fs (FrameLeft children is_with down up height f s) e u (finished (Err e) u finish)

    pub end-fails : (gs : List (RewriteFrame N)) (e : WalkError E) (q : Walk (NextRewrite N) E) (u : S) → q ≡ Err e → UnlessNoMemory {T = Transformed N} (Err e) (Finishes children is_with down up f (Ok (so_far f)) s (Err e) u) →
        StepsOn children is_with down up height fs f s q gs u
    end-fails gs e q u is finish = errs fs gs f s e q u is
        (unless-map {T = Transformed N} (Err e) (Finishes children is_with down up f (Ok (so_far f)) s (Err e) u) (FramesLeft children is_with down up height fs (FrameLeft children is_with down up height f s) (Err e) u) (end-errs e u) finish)

    -- below no frame its answer is the whole rewrite's
    pub end-ends : (q : Walk (Transformed N) E) (u : S) → fs ≡ [] → Finishes children is_with down up f (Ok (so_far f)) s q u → FramesLeft children is_with down up height fs (FrameLeft children is_with down up height f s) q u
    end-ends q u none finish =
        let P : List (RewriteFrame N) → Type 0 = λ hs. FramesLeft children is_with down up height hs (FrameLeft children is_with down up height f s) q u in subst P (sym none) (finished q u finish)

    -- the frame above has one more value
    pub end-goes : (y : Transformed N) (u : S) (g h : RewriteFrame N) (gs : List (RewriteFrame N)) → fs ≡ gs ++ g ∷ [] → HasOneMore g y h → Finishes children is_with down up f (Ok (so_far f)) s (Ok y) u → (r : Walk (Transformed N) E) (t : S) →
        FramesLeft children is_with down up height gs (FrameLeft children is_with down up height h u) r t → FramesLeft children is_with down up height fs (FrameLeft children is_with down up height f s) r t
    end-goes y u g h gs popped more finish r t left =
        let A : Walk (Transformed N) E → S → Type 0 = FrameLeft children is_with down up height f s in
        let P : List (RewriteFrame N) → Type 0 = λ hs. FramesLeft children is_with down up height hs A r t in
        subst P (sym popped) (last-in gs g A r t (below gs (FrameLeft children is_with down up height h u) (OfOne A g) (λ q v w. (Ok y, u, finished (Ok y) u finish, answered_above q v (one-more g h y u q v more w))) r t left))
      where
        answered_above : (q : Walk (Transformed N) E) (v : S) → FromPlace children is_with down up height g (length g.values.items + 1) (with_one (so_far g) y) u q v → ChildAnswered children is_with down up height g (Ok y) u q v
        answered_above q v (m, w, turns, after) = (m, w, turns, after)
