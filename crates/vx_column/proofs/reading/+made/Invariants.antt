use Rattle.std.proofs.Common.{◌*◌, ◌+◌, take}
use Rattle.std.specs.List.{AllZip}
use Rattle.vx_column.specs.TypeSizes.{size_of}
use Rattle.vx_column.specs.StructColumns.{StandsAt}
use Rattle.vx_column.proofs.CellLemmas.{deepest}
use Rattle.vx_column.proofs.reading.+made.Given as goal

abbrev pub decreases-made_at : goal.decreases-made_at
decreases-made_at l = 2 * size_of l.column.now.ty

abbrev pub decreases-row_of : goal.decreases-row_of
decreases-row_of l = 2 * deepest l.fields.now + 1

-- the values of the columns so far
abbrev pub invariant-row_of-loop-field : goal.invariant-row_of-loop-field
invariant-row_of-loop-field l = AllZip (StandsAt l.fn.i) (take l.field-index l.fn.fields) l.row.items
