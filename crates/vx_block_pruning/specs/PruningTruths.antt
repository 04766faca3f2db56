-- For the checker: no public clause cites this.
-- The table of the available statistics in a run of blocks, a row for each, and the truths of an expression over it.
use Rattle.std.specs.Prelude.{◌≡◌, ℕ, ◌<◌, Bool, true, false, List, map, length, Ok}
use Rattle.std.specs.List.{range_with_len}
use Rattle.vx_dtype.specs.declared.Nullability.{Nullability}
use Rattle.vx_dtype.specs.Types.{Ty, bool_ty}
use Rattle.vx_dtype.specs.Values.{Val}
use Rattle.vx_dtype.specs.Logic.{is_true_val}
use Rattle.vx_expr.specs.Trees.{Tree}
use Rattle.vx_semantics.specs.Meaning.{Slots, mean}
use Rattle.vx_semantics.specs.Slots.{slots_fit}
use Rattle.vx_semantics.specs.Breaks.{Cause, by_sum, by_cast}
use Rattle.vx_semantics.specs.Nodes.{some_node_breaks}
use Rattle.vx_semantics.specs.Tables.{Zones, row_type}
use Rattle.vx_passes.specs.PruningTables.{pruning_fields, pruning_row}
use Rattle.vx_column.specs.Columns.{Column, column}
use Rattle.vx_eval.specs.Evaluating.{checked_type}
use Rattle.vx_laws_pruning.specs.PruningTypes.{IsBooleanOver}

-- the table of the available statistics, a row for each block of a run, which begins at a block and is so long
abbrev pub pruning_table : Zones → ℕ → ℕ → Column
pruning_table zones first count = column (row_type (pruning_fields zones)) (map (pruning_row zones) (range_with_len first count))

-- of each block of a run, whether an expression over the statistics is true there
abbrev pub pruning_truths : Zones → Slots → ℕ → ℕ → Tree → List Bool
pruning_truths zones slots first count e =
    map (λ block. is_true_val (mean (row_type (pruning_fields zones)) slots (pruning_row zones block) e)) (range_with_len first count)

-- an expression over the statistics that has a type where there are blocks, whose slots fit, and of which no node breaks
pub record IsEvaluable (zones : Zones) (slots : Slots) (e : Tree) : Type 0 where
  pub typed : 0 < length zones.lengths → IsBooleanOver (row_type (pruning_fields zones)) e
  pub fitting : slots_fit slots e ≡ true
  pub unbroken : (c : Cause) (rows : List Val) → some_node_breaks c (row_type (pruning_fields zones)) slots rows e ≡ false

-- an expression that has a boolean column over rows: its type is boolean, its slots fit, and no node breaks
pub record GivesColumn (t : Ty) (slots : Slots) (rows : List Val) (e : Tree) : Type 0 where
  pub null : Nullability
  pub typed : checked_type t slots e ≡ Ok (bool_ty null)
  pub summed : some_node_breaks by_sum t slots rows e ≡ false
  pub cast : some_node_breaks by_cast t slots rows e ≡ false
