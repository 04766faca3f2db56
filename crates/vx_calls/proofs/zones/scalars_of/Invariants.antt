-- The cells so far.
use Rattle.std.proofs.Common.{◌≡◌, map, take}
use Rattle.vx_calls.specs.BlockZones.{cell_scalar}
use Rattle.vx_calls.proofs.zones.scalars_of.Given as goal

abbrev pub invariant-loop-i : goal.invariant-loop-i
invariant-loop-i l = l.scalars.items ≡ map (cell_scalar l.fn.column.ty) (take l.i l.fn.column.rows)
