use Rattle.std.proofs.Common.{◌≡◌, ◌+◌, ◌≤◌, sum, drop}
use Rattle.vx_laws_file.specs.FileForms.{most_rows}
use Rattle.vx_file_bytes.proofs.columns_reading.are_few_rows.Given as goal

-- the rows so far and those that may still come are the most, and those left come beside the rows so far
abbrev pub invariant-loop-length : goal.invariant-loop-length
invariant-loop-length l = record { within : l.left ≤ most_rows; left : sum l.fn.lengths + l.left ≡ most_rows + sum (drop l.length-index l.fn.lengths) }
