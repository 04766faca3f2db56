-- For the checker: no public clause cites this.
-- Visits of several expressions in turn.
use Rattle.std.specs.Prelude.{◌≡◌, ℕ, nat_eq, Bool, List, [], ◌∷◌, length}
use Rattle.vx_expr.specs.Trees.{Tree, children_of}
use Rattle.vx_passes.specs.Annotating.{Entry, annotated_from}
use Rattle.vx_partition.specs.Entries.{Extends, numbered_entries}
use Rattle.vx_partition.specs.Numbering.{known, AreNumbersOf}
use Rattle.vx_partition.specs.declared.annotating.Visit.{Visit}

-- the map after a visit of each of these expressions in turn
abbrev pub visited_in_turn : {A : Type 0} → (A → A → Bool) → (Tree → List A) → List Tree → List (Entry A) → List (Entry A)
visited_in_turn same annotate [] m = m
visited_in_turn same annotate (e ∷ es) m = visited_in_turn same annotate es (annotated_from same annotate e m)

-- these expressions were visited in turn by the same rule, and have these numbers
pub record HasVisited {F A : Type 0} (same : A → A → Bool) (annotated : F → Tree → List A) (old : Visit F A) (es : List Tree) (ns : List ℕ) (new : Visit F A) : Type 0 where
  pub rule : new.rule ≡ old.rule
  pub entries : numbered_entries new.found ≡ visited_in_turn same (annotated old.rule.now) es (numbered_entries old.found)
  pub extended : Extends old.found new.found
  pub numbers : AreNumbersOf (known new.found.numbers) ns es

-- the same of the children of an expression that has no annotations itself
pub record HasVisitedBelow {F A : Type 0} (same : A → A → Bool) (annotated : F → Tree → List A) (old : Visit F A) (e : Tree) (ns : List ℕ) (new : Visit F A) : Type 0 where
  pub none : annotated old.rule.now e ≡ []
  pub visited : HasVisited same annotated old (children_of e) ns new

-- whether the rule gives a node no annotations
abbrev pub has_none : {A : Type 0} → (Tree → List A) → Tree → Bool
has_none annotate e = nat_eq (length (annotate e)) 0
