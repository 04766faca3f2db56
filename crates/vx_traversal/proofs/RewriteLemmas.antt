-- One step of the values that are handed over in turn, and what is said unless memory ran out.
use Rattle.std.specs.Prelude.{◌≡◌, ℕ, zero, suc, ◌+◌, ◌<◌, ◌≤◌, List, [], ◌∷◌, ◌++◌, Bool, true, false, ◌||◌, Ok, Err, Some, slice_get, Contains, length}
use Rattle.std.proofs.Common.{drop, refl, sym, subst, add-one, arith}
use Rattle.vx_traversal.specs.declared.errors.WalkError.{WalkError}
use Rattle.vx_traversal.specs.declared.errors.WalkError.TheVariants.{NoMemory, Visit}
use Rattle.vx_traversal.specs.declared.order.TraversalOrder.{TraversalOrder}
use Rattle.vx_traversal.specs.declared.order.TraversalOrder.TheVariants.{Skip, Stop, Continue}
use Rattle.vx_traversal.specs.declared.transform.Transformed.{Transformed}
use Rattle.vx_traversal.specs.Rewrites.{Walk, RewriteStep, UnlessNoMemory, UnlessStopped, WithValue, MapsInTurn, MapsChildren, Rebuilds, GoesUp, AfterOrder, FromOrder, RewritesBelow, Rewrites, with_one, none_yet, marked}
use Rattle.vx_traversal.proofs.Steps.{drop-at, drop-past}

-- a fact that holds is said unless memory ran out
pub unless : {T E : Type 0} (r : Walk T E) (P : Type 0) → P → UnlessNoMemory r P
unless (Ok x) P p = p
unless (Err NoMemory) P p = tt
unless (Err (Visit e)) P p = p

pub unless-map : {T E : Type 0} (r : Walk T E) (P Q : Type 0) → (P → Q) → UnlessNoMemory r P → UnlessNoMemory r Q
unless-map (Ok x) P Q f p = f p
unless-map (Err NoMemory) P Q f p = tt
unless-map (Err (Visit e)) P Q f p = f p

pub or-false : (b : Bool) → (b || false) ≡ b
or-false true = refl
or-false false = refl

module _ {S N E : Type 0} (Each : RewriteStep S N E) where
  -- past the end the values so far are the answer
  pub MapsInTurn-end : (xs : List N) (i : ℕ) (so_far : Transformed (List N)) (s : S) → length xs ≤ i → MapsInTurn Each so_far s (drop i xs) (Ok so_far) s
  MapsInTurn-end xs i so_far s le = let P : List N → Type 0 = λ ys. MapsInTurn Each so_far s ys (Ok so_far) s in subst P (sym (drop-past xs i le)) (refl, refl)

  pub unless_stopped : (o : TraversalOrder) → (o ≡ Stop → ⊥) → (s : S) (n : N) (q : Walk (Transformed N) E) (u : S) → Each s n q u → UnlessStopped Each o s n q u
  unless_stopped Skip on s n q u step = step
  unless_stopped Stop on s n q u step = absurd (on refl)
  unless_stopped Continue on s n q u step = step

  pub kept : (o : TraversalOrder) → o ≡ Stop → (s : S) (n : N) → UnlessStopped Each o s n (Ok (record { value = n; order = o; changed = false })) s
  kept Skip is s n = absurd (cc)
  kept Stop is s n = (refl, refl)
  kept Continue is s n = absurd (cc)

  module _ (xs : List N) (i : ℕ) (x : N) (at : slice_get xs i ≡ Some x) (vs : List N) (o : TraversalOrder) (ch : Bool) where
    pub MapsInTurn-at : (s : S) (q : Walk (Transformed N) E) (u : S) (r : Walk (Transformed (List N)) E) (t : S) →
        UnlessStopped Each o s x q u → WithValue (λ y. MapsInTurn Each (with_one (record { value = vs; order = o; changed = ch }) y) u (drop (i + 1) xs) r t) q u r t → MapsInTurn Each (record { value = vs; order = o; changed = ch }) s (drop i xs) r t
    MapsInTurn-at s q u r t step rest =
        let P : List N → Type 0 = λ ys. MapsInTurn Each (record { value = vs; order = o; changed = ch }) s ys r t in
        subst P (sym (drop-at xs i x at)) (q, u, step, subst (λ (j : ℕ). WithValue (λ y. MapsInTurn Each (with_one (record { value = vs; order = o; changed = ch }) y) u (drop j xs) r t) q u r t) (add-one i) rest)

    -- after a Stop a value stays as it is
    pub MapsInTurn-kept : (vs' : List N) (s : S) (r : Walk (Transformed (List N)) E) (t : S) → o ≡ Stop → vs' ≡ vs ++ x ∷ [] →
        MapsInTurn Each (record { value = vs'; order = o; changed = ch }) s (drop (i + 1) xs) r t → MapsInTurn Each (record { value = vs; order = o; changed = ch }) s (drop i xs) r t
    MapsInTurn-kept vs' s r t stopped more rest =
        MapsInTurn-at s (Ok (record { value = x; order = o; changed = false })) s r t (kept o stopped s x)
        (let P : List N → Type 0 = λ ws. MapsInTurn Each (record { value = ws; order = o; changed = ch || false }) s (drop (i + 1) xs) r t in
        subst P more (let Q : Bool → Type 0 = λ b. MapsInTurn Each (record { value = vs'; order = o; changed = b }) s (drop (i + 1) xs) r t in subst Q (sym (or-false ch)) rest))

    module _ (on : o ≡ Stop → ⊥) (s : S) (q : Walk (Transformed N) E) (u : S) (step : Each s x q u) where
      -- an error ends the walk
      pub MapsInTurn-error : (e : WalkError E) → q ≡ Err e → MapsInTurn Each (record { value = vs; order = o; changed = ch }) s (drop i xs) (Err e) u
      MapsInTurn-error e errors =
          MapsInTurn-at s q u (Err e) u (unless_stopped o on s x q u step)
          (let P : Walk (Transformed N) E → Type 0 = λ p. WithValue {X = Transformed (List N)} (λ y. MapsInTurn Each (with_one (record { value = vs; order = o; changed = ch }) y) u (drop (i + 1) xs) (Err e) u) p u (Err e) u in subst P (sym errors) (refl, refl))

      -- with a value it goes on
      pub MapsInTurn-next : (y : Transformed N) (vs' : List N) (ch' : Bool) → q ≡ Ok y → vs' ≡ vs ++ y.value ∷ [] → ch' ≡ (ch || y.changed) → (r : Walk (Transformed (List N)) E) (t : S) →
          MapsInTurn Each (record { value = vs'; order = y.order; changed = ch' }) u (drop (i + 1) xs) r t → MapsInTurn Each (record { value = vs; order = o; changed = ch }) s (drop i xs) r t
      MapsInTurn-next y vs' ch' goes more marks r t rest =
          MapsInTurn-at s q u r t (unless_stopped o on s x q u step)
          (let P : Walk (Transformed N) E → Type 0 = λ p. WithValue (λ z. MapsInTurn Each (with_one (record { value = vs; order = o; changed = ch }) z) u (drop (i + 1) xs) r t) p u r t in
          subst P (sym goes)
          (let Q : List N → Type 0 = λ ws. MapsInTurn Each (record { value = ws; order = y.order; changed = ch || y.changed }) u (drop (i + 1) xs) r t in
          subst Q more (let R : Bool → Type 0 = λ b. MapsInTurn Each (record { value = vs'; order = y.order; changed = b }) u (drop (i + 1) xs) r t in subst R marks rest)))

module _ {S N E : Type 0} (children : N → List N) (is_with : N → List N → N → Type 0) (Each : RewriteStep S N E) (s : S) (n : N) (r : Walk (Transformed N) E) (u : S) where
  -- an error among the children ends the walk
  pub MapsChildren-error : (e : WalkError E) → r ≡ Err e → MapsInTurn Each none_yet s (children n) (Err e) u → UnlessNoMemory r (MapsChildren children is_with Each s n r u)
  MapsChildren-error e is turns = unless r (MapsChildren children is_with Each s n r u) (Err e, turns, is)

  -- the children in turn, and then the rebuilt node
  pub MapsChildren-rebuilt : (m : Transformed (List N)) → MapsInTurn Each none_yet s (children n) (Ok m) u → UnlessNoMemory r (Rebuilds is_with n (Ok m) r) → UnlessNoMemory r (MapsChildren children is_with Each s n r u)
  MapsChildren-rebuilt m turns rebuilt = unless-map r (Rebuilds is_with n (Ok m) r) (MapsChildren children is_with Each s n r u) (λ b. (Ok m, turns, b)) rebuilt

-- what is said at an error is said of an answer with that error
pub unless-err : (T : Type 0) {X E : Type 0} (e : WalkError E) (r : Walk X E) (P Q : Type 0) → r ≡ Err e → (P → Q) → UnlessNoMemory {T = T} (Err e) P → UnlessNoMemory r Q
unless-err T {X} {E} NoMemory r P Q is f p = let R : Walk X E → Type 0 = λ q. UnlessNoMemory q Q in subst R (sym is) tt
unless-err T {X} {E} (Visit v) r P Q is f p = let R : Walk X E → Type 0 = λ q. UnlessNoMemory q Q in subst R (sym is) (f p)

unless_each : {S N E : Type 0} (A B : RewriteStep S N E) (o : TraversalOrder) (s : S) (n : N) (q : Walk (Transformed N) E) (u : S) → (A s n q u → B s n q u) → UnlessStopped A o s n q u → UnlessStopped B o s n q u
unless_each A B Stop s n q u f w = w
unless_each A B Skip s n q u f w = f w
unless_each A B Continue s n q u f w = f w

with_value : {S N X E : Type 0} (P Q : Transformed N → Type 0) (q : Walk (Transformed N) E) (s : S) (r : Walk X E) (t : S) → ((y : Transformed N) → P y → Q y) → WithValue P q s r t → WithValue Q q s r t
with_value P Q (Err e) s r t f w = w
with_value P Q (Ok y) s r t f w = f y w

-- values that take their steps in turn take those that follow from them
pub MapsInTurn-each : {S N E : Type 0} {A B : RewriteStep S N E} (ns : List N) → ((n : N) → Contains ns n → (s : S) (q : Walk (Transformed N) E) (u : S) → A s n q u → B s n q u) →
    (so_far : Transformed (List N)) (s : S) (r : Walk (Transformed (List N)) E) (t : S) → MapsInTurn A so_far s ns r t → MapsInTurn B so_far s ns r t
MapsInTurn-each [] h so_far s r t w = w
MapsInTurn-each {S} {N} {E} {A} {B} (n ∷ ns) h so_far s r t (q, u, step, rest) =
    let below : (m : N) → Contains ns m → (s : S) (q : Walk (Transformed N) E) (u : S) → A s m q u → B s m q u = λ m (k, lt, is). h m (suc k, omega arith, is) in (
      q,
      u,
      unless_each A B so_far.order s n q u (h n (0, omega arith, refl) s q u) step,
      with_value (λ y. MapsInTurn A (with_one so_far y) u ns r t) (λ y. MapsInTurn B (with_one so_far y) u ns r t) q u r t (λ y. MapsInTurn-each ns below (with_one so_far y) u r t) rest,
    )

module _ {S N E : Type 0} (children : N → List N) (is_with : N → List N → N → Type 0) (down up : RewriteStep S N E) (height : N → ℕ) (lower : (n c : N) → Contains (children n) c → height c < height n) where
  from_order : {A B : RewriteStep S N E} → ((s : S) (n : N) (q : Walk (Transformed N) E) (u : S) → A s n q u → B s n q u) →
      (o : TraversalOrder) (d : Transformed N) (s : S) (r : Walk (Transformed N) E) (t : S) → FromOrder children is_with down up A o d s r t → FromOrder children is_with down up B o d s r t
  from_order f Stop d s r t w = w
  from_order f Skip d s r t w = w
  from_order f Continue d s r t (q, u, (m, turns, rebuilt), rest) = (q, u, (m, MapsInTurn-each (children d.value) (λ c is s' q' u'. f s' c q' u') none_yet s m u turns, rebuilt), rest)

  -- a rewrite below a number is one below each larger number
  pub RewritesBelow-more : (j k : ℕ) → j ≤ k → (s : S) (n : N) (r : Walk (Transformed N) E) (t : S) → RewritesBelow children is_with down up j s n r t → RewritesBelow children is_with down up k s n r t
  RewritesBelow-more zero k le s n r t w = absurd w
  RewritesBelow-more (suc j) zero le s n r t w = absurd (omega arith)
  RewritesBelow-more (suc j) (suc k) le s n r t (q, u, step, rest) = (
    q,
    u,
    step,
    with_value (λ d. FromOrder children is_with down up (RewritesBelow children is_with down up j) d.order d u r t) (λ d. FromOrder children is_with down up (RewritesBelow children is_with down up k) d.order d u r t) q u r t
        (λ d. from_order (RewritesBelow-more j k (omega arith)) d.order d u r t) rest,
  )

  -- down with Continue, the children of its value in turn, and what follows them
  pub Rewrites-through : (s : S) (n : N) (d : Transformed N) (u : S) (q : Walk (Transformed N) E) (v : S) (r : Walk (Transformed N) E) (t : S) →
      down s n (Ok d) u → d.order ≡ Continue → (d.order ≡ Continue → height d.value ≤ height n) → MapsChildren children is_with (Rewrites children is_with down up height) u d.value q v →
      WithValue (λ m. AfterOrder children is_with down up m.order d.changed m v r t) q v r t → Rewrites children is_with down up height s n r t
  Rewrites-through s n d u q v r t step goes no_higher (m, turns, rebuilt) rest =
      let within : height d.value ≤ height n = no_higher goes in
      let P : TraversalOrder → Type 0 = λ o. FromOrder children is_with down up (RewritesBelow children is_with down up (height n)) o d u r t in
      (Ok d, u, step, subst P (sym goes) (q, v, (m, MapsInTurn-each (children d.value) (λ c is s' q' u' w. RewritesBelow-more (suc (height c)) (height n) (let low : height c < height d.value = lower d.value c is in omega arith) s' c q' u' w) none_yet u m v turns, rebuilt), rest))

  -- up after children with the order Continue
  pub after-continue : (ch : Bool) (m : Transformed N) (v : S) (r : Walk (Transformed N) E) (t : S) → m.order ≡ Continue → GoesUp up (ch || m.changed) v m.value r t → AfterOrder children is_with down up m.order ch m v r t
  after-continue ch m v r t is step = let P : TraversalOrder → Type 0 = λ o. AfterOrder children is_with down up o ch m v r t in subst P (sym is) step

  -- with another order the node stands
  stands : (o : TraversalOrder) → (o ≡ Continue → ⊥) → (ch : Bool) (m : Transformed N) (v : S) → AfterOrder children is_with down up o ch m v (marked ch (Ok m)) v
  stands Continue on ch m v = absurd (on refl)
  stands Skip on ch m v = (refl, refl)
  stands Stop on ch m v = (refl, refl)

  pub after-other : (ch : Bool) (m : Transformed N) (v : S) (o : TraversalOrder) → m.order ≡ o → (m.order ≡ Continue → ⊥) → AfterOrder children is_with down up m.order ch m v (Ok (record { value = m.value; order = o; changed = ch || m.changed })) v
  after-other ch m v o is on = let P : TraversalOrder → Type 0 = λ p. AfterOrder children is_with down up m.order ch m v (Ok (record { value = m.value; order = p; changed = ch || m.changed })) v in subst P is (stands m.order on ch m v)
