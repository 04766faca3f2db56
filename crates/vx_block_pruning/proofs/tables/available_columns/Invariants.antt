use Rattle.std.proofs.Common.{◌≡◌, ◌++◌, map, drop}
use Rattle.vx_block_pruning.specs.Available.{flagged}
use Rattle.vx_block_pruning.specs.StatisticColumns.{column_of}
use Rattle.vx_block_pruning.proofs.tables.available_columns.Given as goal

-- the columns so far, and then those of the statistics that are left
abbrev pub invariant-loop-i : goal.invariant-loop-i
invariant-loop-i l =
    l.columns.items ++ map (column_of l.first l.count) (flagged (drop l.i l.flags) (drop l.i l.stats))
    ≡ map (column_of l.first l.count) (flagged l.flags l.stats)
