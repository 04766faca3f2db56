use Rattle.std.proofs.Common.{◌≡◌, drop}
use Rattle.std.specs.List.{list_all}
use Rattle.vx_dtype.specs.StructTypes.{is_struct_ty}
use Rattle.vx_column.specs.StructColumns.{column_types}
use Rattle.vx_eval.proofs.column_merges.all_structs.Given as goal

-- what is left to test
abbrev pub invariant-loop-column : goal.invariant-loop-column
invariant-loop-column l = list_all is_struct_ty (column_types l.columns) ≡ list_all is_struct_ty (column_types (drop l.column-index l.columns))
