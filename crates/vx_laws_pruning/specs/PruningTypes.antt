-- What pruning expressions over the statistics of accepted zones are: strictly typed booleans that never break.
use Rattle.std.specs.Prelude.{ℕ, ◌≡◌, true, ◌<◌, List, [], ◌∷◌, length, slice_get, Option, Some, None, Ok, MatchOption}
use Rattle.std.specs.Option.{option_and_then}
use Rattle.vx_dtype.specs.declared.Nullability.{Nullability}
use Rattle.vx_dtype.specs.Types.{Ty, bool_ty}
use Rattle.vx_dtype.specs.Values.{Val}
use Rattle.vx_expr.specs.Trees.{Tree, children_of}
use Rattle.vx_semantics.specs.Typing.{typed_of}
use Rattle.vx_semantics.specs.Meaning.{Slots}
use Rattle.vx_semantics.specs.Slots.{slots_fit}
use Rattle.vx_semantics.specs.Breaks.{break_of}
use Rattle.vx_semantics.specs.Tables.{Zones, row_type}
use Rattle.vx_passes.specs.Catalogs.{available_paths}
use Rattle.vx_passes.specs.PruningTables.{pruning_over, pruning_fields}
use Rattle.vx_laws_pruning.specs.PruningLaws.{IsPrunable}

-- strictly typed over a scope, a boolean
pub record IsBooleanOver (t : Ty) (e : Tree) : Type 0 where
  pub null : Nullability
  pub typed : typed_of t e ≡ Ok (bool_ty null)

-- over zones of one block at least, the pruning expression is a strictly typed boolean over the row of their statistics
abbrev pub PruningTreeIsTyped : Type 0
PruningTreeIsTyped =
    (zones : Zones) (slots : Slots) (filter_expr : Tree) (block : ℕ) → IsPrunable zones slots filter_expr → block < length zones.lengths
    → MatchOption (pruning_over (available_paths zones) filter_expr) (Unit {0}) (λ p. IsBooleanOver (row_type (pruning_fields zones)) p.tree)

-- the node at the end of a path of places among children, from an expression on; none where a place is past the last child
abbrev pub node_at : List ℕ → Tree → Option Tree
node_at [] e = Some e
node_at (i ∷ places) e = option_and_then (node_at places) (slice_get (children_of e) i)

-- none of its nodes breaks at any row
abbrev pub PruningTreeNeverBreaks : Type 0
PruningTreeNeverBreaks =
    (zones : Zones) (slots : Slots) (filter_expr : Tree) → IsPrunable zones slots filter_expr
    → MatchOption (pruning_over (available_paths zones) filter_expr) (Unit {0})
    (λ p.
    (row : Val) (places : List ℕ) (node : Tree) → node_at places p.tree ≡ Some node
    → break_of (row_type (pruning_fields zones)) slots row node ≡ None)

-- the slots that fit a filter fit its pruning expression
abbrev pub PruningSlotsFit : Type 0
PruningSlotsFit =
    (zones : Zones) (slots : Slots) (filter_expr : Tree) → slots_fit slots filter_expr ≡ true
    → MatchOption (pruning_over (available_paths zones) filter_expr) (Unit {0}) (λ p. slots_fit slots p.tree ≡ true)
