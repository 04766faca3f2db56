use Rattle.std.proofs.Common.{◌≡◌, drop}
use Rattle.vx_column.specs.ColumnParts.{truths_fit}
use Rattle.vx_column.proofs.constructors.all_fit.Given as goal

-- what is left to test
abbrev pub invariant-loop-truth : goal.invariant-loop-truth
invariant-loop-truth l = truths_fit l.fn.n l.fn.truths ≡ truths_fit l.fn.n (drop l.truth-index l.fn.truths)
