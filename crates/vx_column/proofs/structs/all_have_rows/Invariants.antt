use Rattle.std.proofs.Common.{◌≡◌, drop}
use Rattle.vx_column.specs.StructColumns.{all_have_rows}
use Rattle.vx_column.proofs.structs.all_have_rows.Given as goal

-- what is left to test
abbrev pub invariant-loop-field : goal.invariant-loop-field
invariant-loop-field l = all_have_rows l.fn.len l.fn.fields ≡ all_have_rows l.fn.len (drop l.field-index l.fn.fields)
