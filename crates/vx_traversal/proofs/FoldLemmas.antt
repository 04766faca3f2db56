-- The fold of a node from the folds of its children.
use Rattle.std.specs.Prelude.{◌≡◌, ℕ, zero, suc, ◌+◌, ◌<◌, ◌≤◌, List, [], ◌∷◌, ◌++◌, Ok, Err, Some, slice_get, Contains, length}
use Rattle.std.proofs.Common.{drop, refl, sym, subst, add-one, arith}
use Rattle.vx_traversal.specs.declared.errors.WalkError.{WalkError}
use Rattle.vx_traversal.specs.declared.fold.FoldDownContext.{FoldDownContext}
use Rattle.vx_traversal.specs.declared.fold.FoldDownContext.TheVariants as deep
use Rattle.vx_traversal.specs.declared.fold.FoldUp.{FoldUp}
use Rattle.vx_traversal.specs.declared.fold.FoldUp.TheVariants.{Continue, Stop}
use Rattle.vx_traversal.specs.Rewrites.{Walk}
use Rattle.vx_traversal.specs.Folds.{DownStep, UpStep, FoldStep, WithResult, FoldsInTurn, AfterDown, FoldsBelow, FoldsUnder}
use Rattle.vx_traversal.proofs.Steps.{drop-at, drop-past}

module _ {S N C R E : Type 0} (Each : FoldStep S N C R E) (c : C) (GoesUp : S → List R → Walk (FoldUp R) E → S → Type 0) (xs : List N) (i : ℕ) (results : List R) (s : S) where
  -- past the end the results go up
  pub FoldsInTurn-end : (r : Walk (FoldUp R) E) (t : S) → length xs ≤ i → GoesUp s results r t → FoldsInTurn Each c GoesUp results s (drop i xs) r t
  FoldsInTurn-end r t le up = let P : List N → Type 0 = λ ys. FoldsInTurn Each c GoesUp results s ys r t in subst P (sym (drop-past xs i le)) up

  module _ (x : N) (at : slice_get xs i ≡ Some x) (q : Walk (FoldUp R) E) (u : S) (step : Each s c x q u) where
    pub FoldsInTurn-at : (r : Walk (FoldUp R) E) (t : S) → WithResult (λ y. FoldsInTurn Each c GoesUp (results ++ y ∷ []) u (drop (i + 1) xs) r t) q u r t → FoldsInTurn Each c GoesUp results s (drop i xs) r t
    FoldsInTurn-at r t rest =
        let P : List N → Type 0 = λ ys. FoldsInTurn Each c GoesUp results s ys r t in
        subst P (sym (drop-at xs i x at)) (q, u, step, subst (λ (j : ℕ). WithResult (λ y. FoldsInTurn Each c GoesUp (results ++ y ∷ []) u (drop j xs) r t) q u r t) (add-one i) rest)

    -- an error ends the fold
    pub FoldsInTurn-error : (e : WalkError E) (r : Walk (FoldUp R) E) → q ≡ Err e → r ≡ Err e → FoldsInTurn Each c GoesUp results s (drop i xs) r u
    FoldsInTurn-error e r errors answers =
        FoldsInTurn-at r u (let P : Walk (FoldUp R) E → Type 0 = λ p. WithResult (λ y. FoldsInTurn Each c GoesUp (results ++ y ∷ []) u (drop (i + 1) xs) r u) p u r u in subst P (sym errors) (answers, refl))

    -- Stop ends it too
    pub FoldsInTurn-stop : (y : R) → q ≡ Ok (Stop y) → FoldsInTurn Each c GoesUp results s (drop i xs) (Ok (Stop y)) u
    FoldsInTurn-stop y stops =
        FoldsInTurn-at (Ok (Stop y)) u (let P : Walk (FoldUp R) E → Type 0 = λ p. WithResult (λ z. FoldsInTurn Each c GoesUp (results ++ z ∷ []) u (drop (i + 1) xs) (Ok (Stop y)) u) p u (Ok (Stop y)) u in subst P (sym stops) (refl, refl))

    -- with a result it goes on
    pub FoldsInTurn-next : (y : R) (results' : List R) → q ≡ Ok (Continue y) → results' ≡ results ++ y ∷ [] → (r : Walk (FoldUp R) E) (t : S) →
        FoldsInTurn Each c GoesUp results' u (drop (i + 1) xs) r t → FoldsInTurn Each c GoesUp results s (drop i xs) r t
    FoldsInTurn-next y results' goes more r t rest =
        FoldsInTurn-at r t (let P : Walk (FoldUp R) E → Type 0 = λ p. WithResult (λ z. FoldsInTurn Each c GoesUp (results ++ z ∷ []) u (drop (i + 1) xs) r t) p u r t in
        subst P (sym goes) (let Q : List R → Type 0 = λ ws. FoldsInTurn Each c GoesUp ws u (drop (i + 1) xs) r t in subst Q more rest))

with_result : {S R E : Type 0} (P Q : R → Type 0) (q : Walk (FoldUp R) E) (s : S) (r : Walk (FoldUp R) E) (t : S) → ((y : R) → P y → Q y) → WithResult P q s r t → WithResult Q q s r t
with_result P Q (Err e) s r t f w = w
with_result P Q (Ok (Stop y)) s r t f w = w
with_result P Q (Ok (Continue y)) s r t f w = f y w

-- nodes that are folded in turn are folded so by the folds that follow
pub FoldsInTurn-each : {S N C R E : Type 0} (A B : FoldStep S N C R E) (c : C) (GoesUp : S → List R → Walk (FoldUp R) E → S → Type 0) (ns : List N) →
    ((n : N) → Contains ns n → (s : S) (q : Walk (FoldUp R) E) (u : S) → A s c n q u → B s c n q u) →
    (results : List R) (s : S) (r : Walk (FoldUp R) E) (t : S) → FoldsInTurn A c GoesUp results s ns r t → FoldsInTurn B c GoesUp results s ns r t
FoldsInTurn-each A B c GoesUp [] h results s r t w = w
FoldsInTurn-each {S} {N} {C} {R} {E} A B c GoesUp (n ∷ ns) h results s r t (q, u, step, rest) =
    let below : (m : N) → Contains ns m → (s : S) (q : Walk (FoldUp R) E) (u : S) → A s c m q u → B s c m q u = λ m (k, lt, is). h m (suc k, omega arith, is) in (
      q,
      u,
      h n (0, omega arith, refl) s q u step,
      with_result (λ y. FoldsInTurn A c GoesUp (results ++ y ∷ []) u ns r t) (λ y. FoldsInTurn B c GoesUp (results ++ y ∷ []) u ns r t) q u r t (λ y. FoldsInTurn-each A B c GoesUp ns below (results ++ y ∷ []) u r t) rest,
    )

module _ {S N C R E : Type 0} (children : N → List N) (down : DownStep S N C R E) (up : UpStep S N C R E) (height : N → ℕ) (lower : (n c : N) → Contains (children n) c → height c < height n) where
  after_down : (A B : FoldStep S N C R E) → ((s : S) (c : C) (n : N) (q : Walk (FoldUp R) E) (u : S) → A s c n q u → B s c n q u) →
      (c : C) (n : N) (p : Walk (FoldDownContext C R) E) (s : S) (r : Walk (FoldUp R) E) (t : S) → AfterDown children down up A c n p s r t → AfterDown children down up B c n p s r t
  after_down A B f c n (Err e) s r t w = w
  after_down A B f c n (Ok (deep.Skip x)) s r t w = w
  after_down A B f c n (Ok (deep.Stop x)) s r t w = w
  after_down A B f c n (Ok (deep.Continue inner)) s r t w = FoldsInTurn-each A B inner (λ u results. up u n c results) (children n) (λ m is s' q' u'. f s' inner m q' u') [] s r t w

  -- a fold below a number is one below each larger number
  pub FoldsBelow-more : (j k : ℕ) → j ≤ k → (s : S) (c : C) (n : N) (r : Walk (FoldUp R) E) (t : S) → FoldsBelow children down up j s c n r t → FoldsBelow children down up k s c n r t
  FoldsBelow-more zero k le s c n r t w = absurd w
  FoldsBelow-more (suc j) zero le s c n r t w = absurd (omega arith)
  FoldsBelow-more (suc j) (suc k) le s c n r t (q, u, step, rest) = (q, u, step, after_down (FoldsBelow children down up j) (FoldsBelow children down up k) (FoldsBelow-more j k (omega arith)) c n q u r t rest)

  -- down, and what follows its answer
  pub FoldsUnder-after : (s : S) (c : C) (n : N) (y : FoldDownContext C R) (u : S) (r : Walk (FoldUp R) E) (t : S) → down s c n (Ok y) u →
      AfterDown children down up (FoldsUnder children down up height) c n (Ok y) u r t → FoldsUnder children down up height s c n r t
  FoldsUnder-after s c n (deep.Skip x) u r t step ends = (Ok (deep.Skip x), u, step, ends)
  FoldsUnder-after s c n (deep.Stop x) u r t step ends = (Ok (deep.Stop x), u, step, ends)
  FoldsUnder-after s c n (deep.Continue inner) u r t step turns = (
    Ok (deep.Continue inner),
    u,
    step,
    FoldsInTurn-each (FoldsUnder children down up height) (FoldsBelow children down up (height n)) inner (λ v results. up v n c results) (children n)
        (λ m is s' q' u' w. FoldsBelow-more (suc (height m)) (height n) (let low : height m < height n = lower n m is in omega arith) s' inner m q' u' w) [] u r t turns,
  )
