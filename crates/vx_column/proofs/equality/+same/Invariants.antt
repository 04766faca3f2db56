use Rattle.std.proofs.Common.{◌*◌, ◌+◌, take}
use Rattle.std.specs.List.{AllZip}
use Rattle.vx_column.specs.TypeSizes.{size_of}
use Rattle.vx_column.specs.Cells.{SameAt}
use Rattle.vx_column.proofs.CellLemmas.{deepest}
use Rattle.vx_column.proofs.equality.+same.Given as goal

abbrev pub decreases-same_at : goal.decreases-same_at
decreases-same_at l = 3 * size_of l.left.now.ty

abbrev pub decreases-has_struct : goal.decreases-has_struct
decreases-has_struct l = 3 * deepest l.fields.now + 2

abbrev pub decreases-same_fields : goal.decreases-same_fields
decreases-same_fields l = 3 * deepest l.left.now + 1

abbrev pub decreases-has_inner : goal.decreases-has_inner
decreases-has_inner l = 3 * size_of l.inner.now.ty + 1

-- the columns so far have the same values
abbrev pub invariant-same_fields-loop-k : goal.invariant-same_fields-loop-k
invariant-same_fields-loop-k l = AllZip (SameAt l.fn.i) (take l.k l.fn.left) (take l.k l.fn.right)
