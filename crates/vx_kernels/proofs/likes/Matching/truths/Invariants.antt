use Rattle.std.proofs.Common.{◌≡◌, true, take}
use Rattle.vx_dtype.specs.TypeRules.{union}
use Rattle.vx_dtype.specs.Like.{like3}
use Rattle.vx_words.specs.Truths.{vals_of}
use Rattle.vx_column.specs.Columns.{zip_rows}
use Rattle.vx_column.specs.ColumnParts.{truths_fit}
use Rattle.vx_kernels.specs.LastPatterns.{IsLastIfAny}
use Rattle.vx_kernels.proofs.likes.Matching.truths.Given as goal

-- the answers of the rows so far, and the pattern of the last one
abbrev pub invariant-loop-i : goal.invariant-loop-i
invariant-loop-i l =
    (truths_fit (union l.fn.self.left l.fn.self.right) l.truths.items ≡ true)
    × (vals_of l.truths.items ≡ zip_rows (like3 l.fn.self.negated l.fn.self.case_insensitive) (take l.i l.fn.c.rows) (take l.i l.fn.pattern.rows))
    × IsLastIfAny l.fn.self.case_insensitive l.last
