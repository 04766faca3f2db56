-- What is seen of the slots of an expression's comparisons, and how often it has changed.
use Rattle.std.specs.Prelude.{◌≡◌, ℕ, ◌+◌, ◌-◌, ◌^◌, ◌<◌, Bool, true, cond, not, List, [], ◌∷◌, map, Option, Some, None, Result, Ok, Err}
use Rattle.std.specs.Option.{option_eq}
use Rattle.std.specs.List.{flat_map}
use Rattle.std.specs.Cmp.Lexicographic.{pointwise}
use Rattle.vx_dtype.specs.Values.{Typed}
use Rattle.vx_dtype.specs.Equal.{typed_eq}
use Rattle.vx_expr.specs.Slots.{slot_held}
use Rattle.vx_expr.specs.Trees.{Tree, dynamic}
use Rattle.vx_semantics.specs.Meaning.{Slots}
use Rattle.vx_semantics.specs.Nodes.{nodes_of}
use Rattle.vx_eval.specs.declared.versions.DynamicExprUpdates.{DynamicExprUpdates}
use Rattle.vx_eval.specs.declared.versions.VersionError.{VersionError}
use Rattle.vx_eval.specs.declared.versions.VersionError.TheVariants.{NoMemory, VersionsSpent}

-- the number of the slot that a node compares with
abbrev pub own_slots : Tree → List ℕ
own_slots (dynamic e op k t default) = k ∷ []
own_slots _ = []

-- the numbers of the slots that the nodes of an expression compare with, each node before those below it
abbrev pub compared_slots : Tree → List ℕ
compared_slots e = flat_map own_slots (nodes_of e)

-- what the slots of these numbers hold: none where a slot has no value and past the end
abbrev pub held_at : Slots → List ℕ → List (Option Typed)
held_at slots ks = map (slot_held slots) ks

-- whether values that were held are the same, place by place: in type and value, or both none
abbrev pub same_held : List (Option Typed) → List (Option Typed) → Bool
same_held = pointwise (option_eq typed_eq)

-- the numbers of the slots, what they held when they were last seen, and how often that had changed
pub record Seen : Type 0 where
  pub numbers : List ℕ
  pub held : List (Option Typed)
  pub version : ℕ

-- what the updates of an expression have seen
abbrev pub seen_by : DynamicExprUpdates → Seen
seen_by u = record { numbers = u.numbers.items; held = u.held.items; version = u.version }

-- what is seen first of slots of these numbers, where there are any
abbrev pub first_seen : Slots → List ℕ → Option Seen
first_seen slots [] = None
first_seen slots (k ∷ ks) = Some (record { numbers = k ∷ ks; held = held_at slots (k ∷ ks); version = 0 })

-- whether what the slots hold differs from what was seen
abbrev pub differs : Seen → Slots → Bool
differs seen slots = not (same_held seen.held (held_at slots seen.numbers))

-- what is seen next: the values that are held, and one version more where they differ
abbrev pub next_seen : Seen → Slots → Seen
next_seen seen slots = record { numbers = seen.numbers; held = held_at slots seen.numbers; version = seen.version + cond (differs seen slots) 1 0 }

-- the version of what is seen next; none exactly where the values differ and versions are spent, and then what was seen stays
abbrev pub VersionOf : Seen → Slots → Result ℕ VersionError → Seen → Type 0
VersionOf before slots (Ok n) after = (after ≡ next_seen before slots) × (n ≡ after.version) × (n < 2 ^ 64)
VersionOf before slots (Err VersionsSpent) after = (after ≡ before) × (differs before slots ≡ true) × (before.version ≡ 2 ^ 64 - 1)
VersionOf before slots (Err NoMemory) after = after ≡ before
