-- What the calls say of one another.
use Rattle.std.specs.Prelude.{◌≡◌, ℕ, true, false, List, [], Some, slice_get}
use Rattle.std.specs.List.{All}
use Rattle.vx_dtype.specs.Types.{Fields}
use Rattle.vx_dtype.specs.Values.{Val}
use Rattle.vx_expr.specs.Trees.{Tree}
use Rattle.vx_semantics.specs.Honest.{IsHonest}
use Rattle.vx_semantics.specs.Tables.{Table, Zones}
use Rattle.vx_block_pruning.specs.BlocksRuledOut.{blocks_ruled_out}
use Rattle.vx_calls.specs.FilteredRows.{true_rows}

-- where zones are honest for a table, a block that a filter rules out has no row at which the filter is true
abbrev pub RuledOutBlocksHaveNoTrueRow : Type 0
RuledOutBlocksHaveNoTrueRow =
    (zones : Zones) (table : Table) (columns : Fields) (tree : Tree) (block : ℕ) (rows : List Val)
    → IsHonest zones table → slice_get table.blocks block ≡ Some rows → slice_get (blocks_ruled_out zones [] tree) block ≡ Some true
    → All (λ flag. flag ≡ false) (true_rows columns tree rows)
