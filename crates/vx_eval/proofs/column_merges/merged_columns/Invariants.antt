use Rattle.std.proofs.Common.{◌≡◌, map, take, Some}
use Rattle.vx_typing.specs.declared.field_places.MergedField.{MergedField}
use Rattle.vx_eval.specs.MergedColumns.{merged_column}
use Rattle.vx_eval.proofs.column_merges.merged_columns.Given as goal

-- the columns of the fields so far
abbrev pub invariant-loop-field : goal.invariant-loop-field
invariant-loop-field l = map (λ (m : MergedField). merged_column m.name l.structs) (take l.field-index l.fields) ≡ map Some l.columns.items
