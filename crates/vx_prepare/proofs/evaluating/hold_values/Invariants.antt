use Rattle.std.proofs.Common.{◌≡◌, true, take}
use Rattle.vx_prepare.specs.Parts.{columns_fit}
use Rattle.vx_prepare.proofs.evaluating.hold_values.Given as goal

abbrev pub invariant-loop-column : goal.invariant-loop-column
invariant-loop-column l = columns_fit (take l.column-index l.columns) ≡ true
