-- For the checker: no public clause cites this.
-- Entries of annotations under the numbers of their expressions.
use Rattle.std.specs.Prelude.{◌≡◌, ℕ, nat_eq, Bool, List, [], ◌∷◌, map, Some, option_map, unwrap_or}
use Rattle.std.specs.HashSet.{HashSet, contains}
use Rattle.std.specs.List.{list_any, slice_get}
use Rattle.std.specs.Map.{lookup}
use Rattle.vx_expr.specs.Trees.{Tree}
use Rattle.vx_passes.specs.Annotating.{Entry}
use Rattle.vx_partition.specs.Numbering.{known, IsNumbering, KeepsNumbers}
use Rattle.vx_partition.specs.declared.numbered.Annotated.{Annotated}
use Rattle.vx_partition.specs.declared.numbered.NumberedAnnotations.{NumberedAnnotations}

-- the entries, in order
abbrev pub numbered_entries : {A : Type 0} → NumberedAnnotations A → List (Entry A)
numbered_entries m = map (λ e. record { expression = e.1.expr; annotations = e.1.annotations.items }) m.entries.entries

-- what the entry at a number holds; nothing where there is no entry
abbrev pub held_at : {A : Type 0} → ℕ → List (ℕ × Annotated A) → List A
held_at n entries = unwrap_or (option_map (λ x. x.annotations.items) (lookup (nat_eq n) entries)) []

-- the set has just these annotations
abbrev pub HasAnnotations : {A S : Type 0} → (A → A → Bool) → List A → HashSet A S → Type 0
HasAnnotations {A} same annotations set = (a : A) → contains same set a ≡ list_any (same a) annotations

-- each entry stands at the number of its expression
abbrev pub AreAtNumbers : {A : Type 0} → List Tree → List (ℕ × Annotated A) → Type 0
AreAtNumbers known [] = Unit {0}
AreAtNumbers known (x ∷ entries) = (slice_get known x.0 ≡ Some x.1.expr) × AreAtNumbers known entries

-- the numbers are a numbering, and the entries stand at those of their expressions
pub record IsSound {A : Type 0} (m : NumberedAnnotations A) : Type 0 where
  pub numbering : IsNumbering m.numbers.nodes.entries
  pub entries : AreAtNumbers (known m.numbers) m.entries.entries

-- the map is sound again, and each expression keeps its number
pub record Extends {A : Type 0} (old new : NumberedAnnotations A) : Type 0 where
  pub sound : IsSound new
  pub kept : KeepsNumbers (known old.numbers) (known new.numbers)
