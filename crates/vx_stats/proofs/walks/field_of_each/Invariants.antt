use Rattle.std.proofs.Common.{◌≡◌, map, take}
use Rattle.vx_stats.specs.ColumnFacts.{field_column_of}
use Rattle.vx_stats.proofs.walks.field_of_each.Given as goal

-- the columns of the field so far
abbrev pub invariant-loop-column : goal.invariant-loop-column
invariant-loop-column l = l.inner.items ≡ map (field_column_of l.fn.name) (take l.column-index l.fn.columns)
