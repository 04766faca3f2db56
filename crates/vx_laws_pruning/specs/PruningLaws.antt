-- What pruning expressions over the statistics of accepted zones say.
use Rattle.std.specs.Prelude.{ℕ, ◌≡◌, Bool, true, false, None, Ok, MatchOption}
use Rattle.vx_dtype.specs.Types.{Ty}
use Rattle.vx_dtype.specs.Logic.{is_true_val}
use Rattle.vx_expr.specs.Trees.{Tree}
use Rattle.vx_semantics.specs.Typing.{typed_of}
use Rattle.vx_semantics.specs.Meaning.{Slots, mean}
use Rattle.vx_semantics.specs.Slots.{slots_fit}
use Rattle.vx_semantics.specs.Tables.{Zones, row_type}
use Rattle.vx_semantics.specs.Pruning.{rules_out}
use Rattle.vx_passes.specs.Catalogs.{available_paths}
use Rattle.vx_passes.specs.PruningTables.{pruning_over, pruning_fields, pruning_row}
use Rattle.vx_zones.specs.Zoning.{broken_rule, values_fit}

-- zones that break no rule and whose values fit
pub record AreAccepted (zones : Zones) : Type 0 where
  pub lawful : broken_rule zones ≡ None
  pub fitting : values_fit zones ≡ true

-- a strictly typed filter over the rows of accepted zones, whose slots fit
pub record IsPrunable (zones : Zones) (slots : Slots) (filter_expr : Tree) : Type 0 where
  pub accepted : AreAccepted zones
  pub ty : Ty
  pub typed : typed_of (row_type zones.columns) filter_expr ≡ Ok ty
  pub slots_fitting : slots_fit slots filter_expr ≡ true

-- the pruning expression means true at the row of a block exactly where the filter rules the block out; where there is none, nothing is ruled out
abbrev pub PruningTreeRulesOut : Type 0
PruningTreeRulesOut =
    (zones : Zones) (slots : Slots) (filter_expr : Tree) (block : ℕ) → IsPrunable zones slots filter_expr
    → MatchOption (pruning_over (available_paths zones) filter_expr) (rules_out zones slots block filter_expr ≡ false)
    (λ p.
    is_true_val (mean (row_type (pruning_fields zones)) slots (pruning_row zones block) p.tree)
    ≡ rules_out zones slots block filter_expr)
