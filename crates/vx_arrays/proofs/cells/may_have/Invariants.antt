use Rattle.std.proofs.Common.{◌≡◌, drop}
use Rattle.std.specs.Prelude.{is_some}
use Rattle.std.specs.List.{list_all}
use Rattle.vx_arrays.proofs.cells.may_have.Given as goal

-- what is left to test
abbrev pub invariant-loop-cell : goal.invariant-loop-cell
invariant-loop-cell g l = list_all is_some l.fn.cells ≡ list_all is_some (drop l.cell-index l.fn.cells)
