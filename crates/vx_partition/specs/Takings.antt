-- For the checker: no public clause cites this.
-- Parts taken out of several expressions in turn, and out of the children of a node.
use Rattle.std.specs.Prelude.{◌≡◌, ℕ, Bool, List, [], ◌∷◌, ◌++◌, length, take, drop, reverse, Option, None}
use Rattle.vx_dtype.specs.Types.{Bytes}
use Rattle.vx_expr.specs.Children.{one_of}
use Rattle.vx_expr.specs.Trees.{Tree, children_of}
use Rattle.vx_passes.specs.Annotating.{Entry, entry_of}
use Rattle.vx_passes.specs.Splitting.{Share, Taken, taken_from}
use Rattle.vx_transform.specs.Rebuilds.{or_same, all_or_same, with_these}
use Rattle.vx_partition.specs.Entries.{IsSound, numbered_entries}
use Rattle.vx_partition.specs.Numbering.{known, AreNumbersOf}
use Rattle.vx_partition.specs.Views.{shares_view}
use Rattle.vx_partition.specs.declared.taking.Taking.{Taking}

-- what an expression became, and the shares then
abbrev pub taken_as : {A : Type 0} → Tree → List (Share A) → Taken A
taken_as e ss = record { expression = e; shares = ss }

-- what the expressions of a list became, and the shares then
pub record ListTaken (A : Type 0) : Type 0 where
  pub expressions : List Tree
  pub shares : List (Share A)

abbrev pub listed_as : {A : Type 0} → List Tree → List (Share A) → ListTaken A
listed_as es ss = record { expressions = es; shares = ss }

-- with these expressions before the others
abbrev pub put_before : {A : Type 0} → List Tree → ListTaken A → ListTaken A
put_before es x = record { expressions = es ++ x.expressions; shares = x.shares }

-- with an expression before those that are looked at next
abbrev pub taken_first : {A : Type 0} → (List (Share A) → ListTaken A) → Taken A → ListTaken A
taken_first next x = put_before (x.expression ∷ []) (next x.shares)

-- what the expressions of a list become, in turn
abbrev pub taken_in_turn : {A : Type 0} → (A → A → Bool) → (A → Bytes) → List (Entry A) → List Tree → List (Share A) → ListTaken A
taken_in_turn same text m [] ss = record { expressions = []; shares = ss }
taken_in_turn same text m (e ∷ es) ss = taken_first (taken_in_turn same text m es) (taken_from same text m e ss)

-- a node over what its children became
abbrev pub over_these : {A : Type 0} → Tree → ListTaken A → Taken A
over_these e x = taken_as (with_these e x.expressions) x.shares

-- what a node becomes by its children alone
abbrev pub taken_below : {A : Type 0} → (A → A → Bool) → (A → Bytes) → List (Entry A) → Tree → List (Share A) → Taken A
taken_below same text m e ss = over_these e (taken_in_turn same text m (children_of e) ss)

-- the numbers of the expressions that are looked at next, the first of them first
abbrev pub next_numbers : {A : Type 0} → Taking A → List ℕ
next_numbers s = reverse s.next.items

-- the expression is looked at next
pub record IsNext {A : Type 0} (s : Taking A) (e : Tree) : Type 0 where
  pub sound : IsSound s.found.now
  pub number : AreNumbersOf (known s.found.now.numbers) (take 1 (next_numbers s)) (e ∷ [])

-- parts were taken out of the expression, and this stands in its place
pub record Takes {A : Type 0} (same : A → A → Bool) (text : A → Bytes) (old : Taking A) (e : Tree) (made : Option Tree) (new : Taking A) : Type 0 where
  pub found : new.found ≡ old.found
  pub next : next_numbers new ≡ drop 1 (next_numbers old)
  pub taken : taken_from same text (numbered_entries old.found.now) e (shares_view old.shares) ≡ taken_as (or_same e made) (shares_view new.shares)

-- parts were taken out of the children of the expression, which is none, and these stand in their places
pub record TakesBelow {A : Type 0} (same : A → A → Bool) (text : A → Bytes) (old : Taking A) (e : Tree) (made : List (Option Tree)) (new : Taking A) : Type 0 where
  pub none : one_of (entry_of e (numbered_entries old.found.now)) ≡ None
  pub found : new.found ≡ old.found
  pub next : next_numbers new ≡ drop 1 (next_numbers old)
  pub many : length made ≡ length (children_of e)
  pub taken : taken_in_turn same text (numbered_entries old.found.now) (children_of e) (shares_view old.shares) ≡ listed_as (all_or_same (children_of e) made) (shares_view new.shares)
