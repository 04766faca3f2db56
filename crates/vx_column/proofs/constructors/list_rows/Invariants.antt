use Rattle.std.proofs.Common.{◌≡◌, map}
use Rattle.vx_dtype.specs.RawViews.{raw_view}
use Rattle.vx_column.specs.Answers.{optional_raw, list_raw}
use Rattle.vx_column.proofs.constructors.list_rows.Given as goal

-- the rows so far are those of the values so far
abbrev pub invariant-loop-value : goal.invariant-loop-value
invariant-loop-value l = map raw_view l.rows.items ≡ map (optional_raw list_raw) l.yielded
