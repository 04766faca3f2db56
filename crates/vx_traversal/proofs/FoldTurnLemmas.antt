-- What is left of a fold's frames, after each step, where the fold says what it does to a whole tree.
use Rattle.std.specs.Prelude.{◌≡◌, ℕ, ◌+◌, ◌≤◌, List, [], ◌∷◌, ◌++◌, Some, slice_get, length, drop}
use Rattle.std.proofs.Common.{refl, sym, ap, subst, ◌∙◌, append_assoc, append-nil}
use Rattle.std.proofs.lemmas.List.{length-append}
use Rattle.vx_traversal.specs.declared.fold_steps.TurnFrame.{TurnFrame}
use Rattle.vx_traversal.specs.FoldTurns.{MayTurn}
use Rattle.vx_traversal.specs.FoldPending.{HasOneResultMore, LeftOf, Pending}
use Rattle.vx_traversal.proofs.Steps.{drop-next, drop-past}

drop-none : {A : Type 0} (xs : List A) → drop 0 xs ≡ xs
drop-none [] = refl
drop-none (x ∷ xs) = refl

module _ {S N R : Type 0} (ready : S → N → Type 0) (folds : S → N → R → S → Type 0) (Done : List R → S → Type 0) (Midway : List N → List N → List R → S → Type 0)
    (step : (done : List N) (n : N) (rest : List N) (results : List R) (s : S) → Midway done (n ∷ rest) results s →
    ready s n × ((x : R) (t : S) → folds s n x t → Midway (done ++ n ∷ []) rest (results ++ x ∷ []) t))
    (end : (done : List N) (results : List R) (s : S) → Midway done [] results s → Done results s) where
  -- nodes may be folded in turn where what is so midway lets the next one be folded, and is so after it
  pub turns : (rest done : List N) (results : List R) (s : S) → Midway done rest results s → MayTurn ready folds Done rest results s
  turns [] done results s midway = end done results s midway
  turns (n ∷ rest) done results s midway =
      let here = step done n rest results s midway in
      (here.0, λ x t folded. turns rest (done ++ n ∷ []) (results ++ x ∷ []) t (here.1 x t folded))

module _ {S N R : Type 0} (ready : S → N → Type 0) (Has : S → List N → List R → S → Type 0)
    (may : (s t : S) (ns : List N) (xs : List R) → Has s ns xs t → (n : N) → ready t n)
    (on : (s t u : S) (ns : List N) (xs : List R) (n : N) (x : R) → Has s ns xs t → Has t (n ∷ []) (x ∷ []) u → Has s (ns ++ n ∷ []) (xs ++ x ∷ []) u) where
  -- where the fold of a node is that of a list of it alone, and one more node may always be folded, the nodes of a list may be folded in turn
  pub turn_on : (s t : S) (ns : List N) (Done : List R → S → Type 0) → Has s [] [] t → ((xs : List R) (u : S) → Has s ns xs u → Done xs u) →
      MayTurn ready (λ v n x w. Has v (n ∷ []) (x ∷ []) w) Done ns [] t
  turn_on s t ns Done none ends =
      turns ready (λ v n x w. Has v (n ∷ []) (x ∷ []) w) Done (λ done rest xs u. (done ++ rest ≡ ns) × Has s done xs u)
      (λ done n rest xs u so_far. (may s u done xs so_far.1 n, λ x v folded. (append_assoc done (n ∷ []) rest ∙ so_far.0, on s u v done xs n x so_far.1 folded)))
      (λ done xs u so_far. ends xs u (subst (λ ds. Has s ds xs u) (sym (append-nil done) ∙ so_far.0) so_far.1))
      ns [] [] t (refl, none)

module _ {S N R : Type 0} (children : N → List N) (ready : S → N → Type 0) (folds : S → N → R → S → Type 0) (gathers : S → N → List R → S → Type 0) where
  -- a new frame, whose node's children may be folded in turn
  begun : (start : S) (f : TurnFrame N R) (n : N) (t : S) → f.node.now ≡ n → f.count ≡ length (children n) → f.results.items ≡ [] → MayTurn ready folds (gathers start n) (children n) [] t →
      LeftOf children ready folds gathers start f (length f.results.items) f.results.items t
  begun start f n t same counted none turns =
      let P : N → Type 0 = λ m. MayTurn ready folds (gathers start m) (drop (length f.results.items) (children m)) f.results.items t in
      let Q : List R → Type 0 = λ rs. MayTurn ready folds (gathers start n) (drop (length rs) (children n)) rs t in
      let L : List N → Type 0 = λ cs. MayTurn ready folds (gathers start n) cs [] t in
      (subst (λ m. f.count ≡ length (children m)) (sym same) counted, subst P (sym same) (subst Q (sym none) (subst L (sym (drop-none (children n))) turns)))

  -- a frame with one more result
  one_more : (start : S) (f g : TurnFrame N R) (x : R) (t : S) → HasOneResultMore f x g → LeftOf children ready folds gathers start f (length f.results.items + 1) (f.results.items ++ x ∷ []) t →
      LeftOf children ready folds gathers start g (length g.results.items) g.results.items t
  one_more start f g x t (same, as_many, items) (counted, left) =
      let P : ℕ → Type 0 = λ i. MayTurn ready folds (gathers start f.node.now) (drop i (children f.node.now)) (f.results.items ++ x ∷ []) t in
      let Q : List R → Type 0 = λ rs. MayTurn ready folds (gathers start f.node.now) (drop (length rs) (children f.node.now)) rs t in
      let M : N → Type 0 = λ m. MayTurn ready folds (gathers start m) (drop (length g.results.items) (children m)) g.results.items t in (
        as_many ∙ counted ∙ ap (λ n. length (children n.now)) (sym same),
        subst M (ap (λ n. n.now) (sym same)) (subst Q (sym items) (subst P (sym (length-append f.results.items (x ∷ []))) left)),
      )

  -- the fold of a tree begins with its frame alone
  pub first : (start : S) (n : N) (f : TurnFrame N R) (fs : List (TurnFrame N R)) (t : S) → fs ≡ [] → f.node.now ≡ n → f.count ≡ length (children n) → f.results.items ≡ [] → MayTurn ready folds (gathers start n) (children n) [] t →
      Pending children ready folds gathers (folds start n) fs f t
  first start n f fs t alone same counted none turns =
      let P : N → Type 0 = λ m. (x : R) (u : S) → folds start m x u → folds start n x u in
      subst (λ gs. Pending children ready folds gathers (folds start n) gs f t) (sym alone) (start, subst P (sym same) (λ x u h. h), begun start f n t same counted none turns)

  -- the frame knows how many children its node has
  pub pending-counted : (Gives : R → S → Type 0) (fs : List (TurnFrame N R)) (f : TurnFrame N R) (s : S) → Pending children ready folds gathers Gives fs f s → f.count ≡ length (children f.node.now)
  pending-counted Gives [] f s (start, ends, left) = left.0
  pending-counted Gives (g ∷ gs) f s (start, ends, pending) = pending-counted (λ x t. LeftOf children ready folds gathers start g (length g.results.items + 1) (g.results.items ++ x ∷ []) t) gs f s pending

  -- the next child of a frame
  module _ (f : TurnFrame N R) (c : N) (at : slice_get (children f.node.now) (length f.results.items) ≡ Some c) (s : S) where
    next : (start : S) → LeftOf children ready folds gathers start f (length f.results.items) f.results.items s →
        ready s c × ((x : R) (t : S) → folds s c x t → LeftOf children ready folds gathers start f (length f.results.items + 1) (f.results.items ++ x ∷ []) t)
    next start (counted, left) =
        let P : List N → Type 0 = λ cs. MayTurn ready folds (gathers start f.node.now) cs f.results.items s in
        let here = subst P (drop-next (children f.node.now) (length f.results.items) c at) left in
        (here.0, λ x t folded. (counted, here.1 x t folded))

    -- it may be folded
    pub child-ready : (Gives : R → S → Type 0) (fs : List (TurnFrame N R)) → Pending children ready folds gathers Gives fs f s → ready s c
    child-ready Gives [] (start, ends, left) = (next start left).0
    child-ready Gives (g ∷ gs) (start, ends, pending) = child-ready (λ x t. LeftOf children ready folds gathers start g (length g.results.items + 1) (g.results.items ++ x ∷ []) t) gs pending

    -- once it is folded the frame has one more result
    pub child-folded : (x : R) (t : S) (h : TurnFrame N R) → folds s c x t → HasOneResultMore f x h →
        (Gives : R → S → Type 0) (fs : List (TurnFrame N R)) → Pending children ready folds gathers Gives fs f s → Pending children ready folds gathers Gives fs h t
    child-folded x t h folded more Gives [] (start, ends, left) =
        let P : N → Type 0 = λ m. (y : R) (u : S) → folds start m y u → Gives y u in
        (start, subst P (ap (λ n. n.now) (sym more.0)) ends, one_more start f h x t more ((next start left).1 x t folded))
    child-folded x t h folded more Gives (g ∷ gs) (start, ends, pending) =
        (start, ends, child-folded x t h folded more (λ y u. LeftOf children ready folds gathers start g (length g.results.items + 1) (g.results.items ++ y ∷ []) u) gs pending)

    -- where it has no children, its step up may be taken at once
    pub leaf-ready : (t : S) → children c ≡ [] → MayTurn ready folds (gathers s c) (children c) [] t → gathers s c [] t
    leaf-ready t none turns = let P : List N → Type 0 = λ cs. MayTurn ready folds (gathers s c) cs [] t in subst P none turns

    -- where its children are to be folded, it has a frame of its own below this one
    goes_below : (t : S) (h : TurnFrame N R) → h.node.now ≡ c → h.count ≡ length (children c) → h.results.items ≡ [] → MayTurn ready folds (gathers s c) (children c) [] t →
        (Gives : R → S → Type 0) (fs : List (TurnFrame N R)) → Pending children ready folds gathers Gives fs f s → Pending children ready folds gathers Gives (fs ++ f ∷ []) h t
    goes_below t h same counted none turns Gives [] (start, ends, left) =
        let After : R → S → Type 0 = λ x u. LeftOf children ready folds gathers start f (length f.results.items + 1) (f.results.items ++ x ∷ []) u in
        let P : N → Type 0 = λ m. (x : R) (u : S) → folds s m x u → After x u in
        (start, ends, (s, subst P (sym same) (next start left).1, begun s h c t same counted none turns))
    goes_below t h same counted none turns Gives (g ∷ gs) (start, ends, pending) =
        (start, ends, goes_below t h same counted none turns (λ x u. LeftOf children ready folds gathers start g (length g.results.items + 1) (g.results.items ++ x ∷ []) u) gs pending)

    pub child-goes : (t : S) (h : TurnFrame N R) → h.node.now ≡ c → h.count ≡ length (children c) → h.results.items ≡ [] → MayTurn ready folds (gathers s c) (children c) [] t →
        (Gives : R → S → Type 0) (fs hs : List (TurnFrame N R)) → hs ≡ fs ++ f ∷ [] → Pending children ready folds gathers Gives fs f s → Pending children ready folds gathers Gives hs h t
    child-goes t h same counted none turns Gives fs hs pushed pending = subst (λ ks. Pending children ready folds gathers Gives ks h t) (sym pushed) (goes_below t h same counted none turns Gives fs pending)

  -- a frame whose children all have results
  module _ (f : TurnFrame N R) (s : S) (past : length (children f.node.now) ≤ length f.results.items) where
    all_done : (start : S) → LeftOf children ready folds gathers start f (length f.results.items) f.results.items s → gathers start f.node.now f.results.items s
    all_done start (counted, left) =
        let P : List N → Type 0 = λ cs. MayTurn ready folds (gathers start f.node.now) cs f.results.items s in
        subst P (drop-past (children f.node.now) (length f.results.items) past) left

    -- its node may go up
    pub up-ready : (Gives : R → S → Type 0) (fs : List (TurnFrame N R)) → Pending children ready folds gathers Gives fs f s → (start : S) × gathers start f.node.now f.results.items s
    up-ready Gives [] (start, ends, left) = (start, all_done start left)
    up-ready Gives (g ∷ gs) (start, ends, pending) = up-ready (λ x t. LeftOf children ready folds gathers start g (length g.results.items + 1) (g.results.items ++ x ∷ []) t) gs pending

    module _ (x : R) (t : S) (folded : (start : S) → gathers start f.node.now f.results.items s → folds start f.node.now x t) where
      -- the frame above has one more result
      goes_above : (g h : TurnFrame N R) → HasOneResultMore g x h → (Gives : R → S → Type 0) (gs : List (TurnFrame N R)) →
          Pending children ready folds gathers Gives (gs ++ g ∷ []) f s → Pending children ready folds gathers Gives gs h t
      goes_above g h more Gives [] (start, ends, (from, after, left)) =
          let P : N → Type 0 = λ m. (y : R) (u : S) → folds start m y u → Gives y u in
          (start, subst P (ap (λ n. n.now) (sym more.0)) ends, one_more start g h x t more (after x t (folded from (all_done from left))))
      goes_above g h more Gives (k ∷ gs) (start, ends, pending) =
          (start, ends, goes_above g h more (λ y u. LeftOf children ready folds gathers start k (length k.results.items + 1) (k.results.items ++ y ∷ []) u) gs pending)

      pub up-goes : (g h : TurnFrame N R) (fs gs : List (TurnFrame N R)) → fs ≡ gs ++ g ∷ [] → HasOneResultMore g x h → (Gives : R → S → Type 0) →
          Pending children ready folds gathers Gives fs f s → Pending children ready folds gathers Gives gs h t
      up-goes g h fs gs popped more Gives pending = goes_above g h more Gives gs (subst (λ ks. Pending children ready folds gathers Gives ks f s) popped pending)
