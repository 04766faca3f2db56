use Rattle.std.proofs.Common.{◌≡◌, map, take}
use Rattle.vx_dtype.specs.declared.Stat.TheVariants.{Min, Max, NullCount}
use Rattle.vx_dtype.specs.TypeViews.{type_view}
use Rattle.vx_laws_stats.specs.BuiltStatistics.{built_scalar}
use Rattle.vx_stats.specs.ColumnFacts.{column_rows}
use Rattle.vx_stats.proofs.leaves.found_in.Given as goal

-- the statistics so far
abbrev pub invariant-loop-column : goal.invariant-loop-column
invariant-loop-column l =
    (l.minima.items ≡ map (built_scalar Min (type_view l.fn.dtype)) (column_rows (take l.column-index l.fn.columns)))
    × (l.maxima.items ≡ map (built_scalar Max (type_view l.fn.dtype)) (column_rows (take l.column-index l.fn.columns)))
    × (l.counts.items ≡ map (built_scalar NullCount (type_view l.fn.dtype)) (column_rows (take l.column-index l.fn.columns)))
