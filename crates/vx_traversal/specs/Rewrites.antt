-- The rewrite of a node, as a relation between the node, the state before, the answer and the state after.
use Rattle.std.specs.Prelude.{◌≡◌, ℕ, zero, suc, ◌≤◌, List, [], ◌∷◌, ◌++◌, Bool, false, ◌||◌, Result, Ok, Err, IfOk, MatchBool, ⊤}
use Rattle.std.specs.Fn.{Called, Mut}
use Rattle.vx_traversal.specs.declared.errors.WalkError.{WalkError}
use Rattle.vx_traversal.specs.declared.errors.WalkError.TheVariants.{NoMemory, Visit}
use Rattle.vx_traversal.specs.declared.order.TraversalOrder.{TraversalOrder}
use Rattle.vx_traversal.specs.declared.order.TraversalOrder.TheVariants.{Skip, Stop, Continue}
use Rattle.vx_traversal.specs.declared.transform.Transformed.{Transformed}

-- what a walk that takes memory answers
abbrev pub Walk : Type 0 → Type 0 → Type 0
Walk T E = Result T (WalkError E)

-- the fact, save that after NoMemory nothing is said
abbrev pub UnlessNoMemory : {T E : Type 0} → Walk T E → Type 0 → Type 0
UnlessNoMemory (Ok x) P = P
UnlessNoMemory (Err NoMemory) P = ⊤
UnlessNoMemory (Err (Visit e)) P = P

-- a step of a rewriter or a closure: the state before, the value, the answer and the state after
abbrev pub RewriteStep : Type 0 → Type 0 → Type 0 → Type 1
RewriteStep S N E = S → N → Walk (Transformed N) E → S → Type 0

-- a value that is answered with Continue is no higher than the one that was handed over
abbrev pub IsNoHigher : {N E : Type 0} → (N → ℕ) → N → Walk (Transformed N) E → Type 0
IsNoHigher height n r = IfOk r (λ d. d.order ≡ Continue → height d.value ≤ height n)

-- the values so far with one more; the order is the last one's, and a change stays
abbrev pub with_one : {N : Type 0} → Transformed (List N) → Transformed N → Transformed (List N)
with_one so_far y = record { value = so_far.value ++ y.value ∷ []; order = y.order; changed = so_far.changed || y.changed }

-- no values yet
abbrev pub none_yet : {N : Type 0} → Transformed (List N)
none_yet = record { value = []; order = Continue; changed = false }

-- the answer, changed also where a value before it was
abbrev pub marked : {N E : Type 0} → Bool → Walk (Transformed N) E → Walk (Transformed N) E
marked changed (Err e) = Err e
marked changed (Ok d) = Ok (record { value = d.value; order = d.order; changed = changed || d.changed })

-- the node with its mapped children where one changed, else the node; the order is theirs
abbrev pub Rebuilds : {N E : Type 0} → (N → List N → N → Type 0) → N → Walk (Transformed (List N)) E → Walk (Transformed N) E → Type 0
Rebuilds is_with n (Err e) r = r ≡ Err e
Rebuilds {N} is_with n (Ok m) r = (rebuilt : N) × MatchBool m.changed (is_with n m.value rebuilt) (rebuilt ≡ n)
    × (r ≡ Ok (record { value = rebuilt; order = m.order; changed = m.changed }))

module _ {S N E : Type 0} where
  -- the step, save that after a Stop the value stays as it is
  abbrev pub UnlessStopped : RewriteStep S N E → TraversalOrder → RewriteStep S N E
  UnlessStopped Each Stop s n r t = (r ≡ Ok (record { value = n; order = Stop; changed = false })) × (t ≡ s)
  UnlessStopped Each Skip s n r t = Each s n r t
  UnlessStopped Each Continue s n r t = Each s n r t

module _ {S N X E : Type 0} where
  -- an error ends the walk, and with a value it goes on
  abbrev pub WithValue : (Transformed N → Type 0) → Walk (Transformed N) E → S → Walk X E → S → Type 0
  WithValue GoesOn (Err e) s r t = (r ≡ Err e) × (t ≡ s)
  WithValue GoesOn (Ok y) s r t = GoesOn y

module _ {S N E : Type 0} where
  -- the values take their step in turn until one answers Stop or an error; those after a Stop stay as they are
  abbrev pub MapsInTurn : RewriteStep S N E → Transformed (List N) → S → List N → Walk (Transformed (List N)) E → S → Type 0
  MapsInTurn Each so_far s [] r t = (r ≡ Ok so_far) × (t ≡ s)
  MapsInTurn Each so_far s (n ∷ ns) r t = (q : Walk (Transformed N) E) × (u : S) × UnlessStopped Each so_far.order s n q u
      × WithValue (λ y. MapsInTurn Each (with_one so_far y) u ns r t) q u r t

  -- up on the value, and changed also where a value before it was
  abbrev pub GoesUp : RewriteStep S N E → Bool → RewriteStep S N E
  GoesUp up changed s n r t = (q : Walk (Transformed N) E) × up s n q t × (r ≡ marked changed q)

  module _ (children : N → List N) (is_with : N → List N → N → Type 0) where
    -- the children take their step in turn, and the node is rebuilt
    abbrev pub MapsChildren : RewriteStep S N E → RewriteStep S N E
    MapsChildren Child s n r t = (q : Walk (Transformed (List N)) E) × MapsInTurn Child none_yet s (children n) q t × Rebuilds is_with n q r

    module _ (down up : RewriteStep S N E) where
      -- after the children: Continue goes up with the rebuilt node, else it stands
      abbrev pub AfterOrder : TraversalOrder → Bool → Transformed N → S → Walk (Transformed N) E → S → Type 0
      AfterOrder Continue changed m s r t = GoesUp up (changed || m.changed) s m.value r t
      AfterOrder Skip changed m s r t = (r ≡ marked changed (Ok m)) × (t ≡ s)
      AfterOrder Stop changed m s r t = (r ≡ marked changed (Ok m)) × (t ≡ s)

      -- after down: with Stop the value stands, Skip goes up at once, Continue takes the children in turn
      abbrev pub FromOrder : RewriteStep S N E → TraversalOrder → Transformed N → S → Walk (Transformed N) E → S → Type 0
      FromOrder Child Stop d s r t = (r ≡ Ok d) × (t ≡ s)
      FromOrder Child Skip d s r t = GoesUp up d.changed s d.value r t
      FromOrder Child Continue d s r t = (q : Walk (Transformed N) E) × (u : S) × MapsChildren Child s d.value q u
          × WithValue (λ m. AfterOrder m.order d.changed m u r t) q u r t

      -- the rewrite of a node whose height is below the number
      abbrev pub RewritesBelow : ℕ → RewriteStep S N E
      RewritesBelow zero s n r t = ⊥
      RewritesBelow (suc k) s n r t = (q : Walk (Transformed N) E) × (u : S) × down s n q u
          × WithValue (λ d. FromOrder (RewritesBelow k) d.order d u r t) q u r t

      -- the rewrite of a node: down, the children of the value that down gave in turn, up
      abbrev pub Rewrites : (N → ℕ) → RewriteStep S N E
      Rewrites height s n r t = RewritesBelow (suc (height n)) s n r t

-- the step that does nothing and goes on
abbrev pub KeepsValue : {S N E : Type 0} → RewriteStep S N E
KeepsValue s n r t = (r ≡ Ok (record { value = n; order = Continue; changed = false })) × (t ≡ s)

-- a call of a closure with a value
abbrev pub CalledWith : {S N E : Type 0} → Mut S (N × Unit {0}) (Walk (Transformed N) E) → RewriteStep S N E
CalledWith g s n r t = Called g s (n, tt) r t

-- each step keeps values that are answered with Continue no higher
abbrev pub KeepsHeight : {S N E : Type 0} → (N → ℕ) → RewriteStep S N E → Type 0
KeepsHeight {S} {N} {E} height Each = (s : S) (n : N) (r : Walk (Transformed N) E) (t : S) → Each s n r t → IsNoHigher height n r
