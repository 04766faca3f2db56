use Rattle.std.proofs.Common.{◌≡◌, drop}
use Rattle.vx_column.specs.ColumnParts.{numbers_fit}
use Rattle.vx_column.proofs.constructors.all_in_range.Given as goal

-- what is left to test
abbrev pub invariant-loop-number : goal.invariant-loop-number
invariant-loop-number l = numbers_fit l.fn.p l.fn.n l.fn.numbers ≡ numbers_fit l.fn.p l.fn.n (drop l.number-index l.fn.numbers)
