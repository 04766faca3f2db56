use Rattle.std.proofs.Common.{◌≡◌, ◌*◌, ◌+◌, take, map}
use Rattle.vx_column.specs.TypeSizes.{size_of}
use Rattle.vx_words.specs.Truths.{vals_of}
use Rattle.vx_column.specs.Cells.{kept_column}
use Rattle.vx_column.proofs.CellLemmas.{deepest}
use Rattle.vx_column.proofs.masks.+kept.Given as goal

abbrev pub decreases-kept_of : goal.decreases-kept_of
decreases-kept_of l = 2 * size_of l.column.now.ty

abbrev pub decreases-kept_fields : goal.decreases-kept_fields
decreases-kept_fields l = 2 * deepest l.fields.now + 1

-- the columns so far
abbrev pub invariant-kept_fields-loop-field : goal.invariant-kept_fields-loop-field
invariant-kept_fields-loop-field l = l.kept.items ≡ map (kept_column (vals_of l.fn.keep)) (take l.field-index l.fn.fields)
