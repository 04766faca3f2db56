use Rattle.std.proofs.Common.{take}
use Rattle.std.specs.List.{AllZip}
use Rattle.vx_column.specs.Cells.{HasAtPlace}
use Rattle.vx_column.proofs.projections.columns_at.Given as goal

-- the columns at the places so far
abbrev pub invariant-loop-place : goal.invariant-loop-place
invariant-loop-place l = AllZip (HasAtPlace l.fn.columns) (take l.place-index l.fn.places) l.taken.items
