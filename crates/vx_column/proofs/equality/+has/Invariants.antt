use Rattle.std.proofs.Common.{◌*◌, ◌+◌, take}
use Rattle.std.specs.List.{AllZip}
use Rattle.vx_column.specs.TypeSizes.{size_of}
use Rattle.vx_column.specs.Cells.{HasAt}
use Rattle.vx_column.proofs.CellLemmas.{deepest}
use Rattle.vx_column.proofs.equality.+has.Given as goal

abbrev pub decreases-has_at : goal.decreases-has_at
decreases-has_at l = 2 * size_of l.column.now.ty

abbrev pub decreases-have_at : goal.decreases-have_at
decreases-have_at l = 2 * deepest l.columns.now + 1

-- the columns so far have their values
abbrev pub invariant-have_at-loop-k : goal.invariant-have_at-loop-k
invariant-have_at-loop-k l = AllZip (HasAt l.fn.i) (take l.k l.fn.columns) (take l.k l.fn.values)
