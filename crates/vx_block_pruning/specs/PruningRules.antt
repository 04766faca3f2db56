-- A filter's rule over a table's statistics: what is known of the table and the filter before any block is asked.
use Rattle.std.specs.Prelude.{◌≡◌, Option, option_map, Ok}
use Rattle.vx_dtype.specs.Types.{Ty}
use Rattle.vx_expr.specs.Trees.{Tree}
use Rattle.vx_semantics.specs.Typing.{typed_of}
use Rattle.vx_semantics.specs.Tables.{Zones, row_type}
use Rattle.vx_passes.specs.PruningTables.{pruning_over}
use Rattle.vx_zones.specs.ZoneViews.{statistic_paths}
use Rattle.vx_laws_pruning.specs.PruningLaws.{AreAccepted}
use Rattle.vx_block_pruning.specs.Available.{TellsAvailable}
use Rattle.vx_block_pruning.specs.declared.rules.PruningRule.{PruningRule}

-- the pruning expression of a filter over a table's available statistics, none where they tell of none
abbrev pub pruning_tree : Zones → Tree → Option Tree
pruning_tree zones e = option_map (λ p. p.tree) (pruning_over (statistic_paths zones.stats) e)

-- the rule of a filter over a table's statistics, whatever the slots hold: the filter is typed over the table's rows, and the rule holds its
-- pruning expression, which statistics are available, and their joined names
pub record IsRuleOf (zones : Zones) (e : Tree) (rule : PruningRule) : Type 0 where
  pub accepted : AreAccepted zones
  pub ty : Ty
  pub typed : typed_of (row_type zones.columns) e ≡ Ok ty
  pub pruning : rule.pruning ≡ pruning_tree zones e
  pub available : TellsAvailable zones rule.available.items rule.names
