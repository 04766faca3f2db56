use Rattle.std.proofs.Common.{◌≡◌, map, take}
use Rattle.vx_eval.specs.MergedColumns.{column_names}
use Rattle.vx_eval.proofs.column_merges.names_in_each.Given as goal

-- the names of the columns so far
abbrev pub invariant-loop-column : goal.invariant-loop-column
invariant-loop-column l = l.names.items ≡ map column_names (take l.column-index l.structs)
