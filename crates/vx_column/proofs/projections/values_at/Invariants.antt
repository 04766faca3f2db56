use Rattle.std.proofs.Common.{take}
use Rattle.std.specs.List.{AllZip}
use Rattle.vx_column.specs.StructColumns.{IsAtPlace}
use Rattle.vx_column.proofs.projections.values_at.Given as goal

-- the values at the places so far
abbrev pub invariant-loop-place : goal.invariant-loop-place
invariant-loop-place l = AllZip (IsAtPlace l.fn.values) (take l.place-index l.fn.places) l.taken.items
