use Rattle.std.proofs.Common.{◌≡◌, true, take}
use Rattle.vx_words.specs.Truths.{vals_of}
use Rattle.vx_column.specs.Columns.{zip_rows}
use Rattle.vx_column.specs.ColumnParts.{truths_fit}
use Rattle.vx_kernels.proofs.rows.zip_truths.Given as goal

-- the truths of the rows so far
abbrev pub invariant-loop-i : goal.invariant-loop-i
invariant-loop-i g l =
    (truths_fit (g.R.TruthRule.nullability l.fn.rule) l.truths.items ≡ true)
    × (vals_of l.truths.items ≡ zip_rows (g.R.TruthRule.rule l.fn.rule) (take l.i l.fn.l.rows) (take l.i l.fn.r.rows))
