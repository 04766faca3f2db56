use Rattle.std.proofs.Common.{◌≡◌, ◌*◌, ◌≤ℤ◌, neg_ℤ, pos, take}
use Rattle.vx_laws_generated.specs.GeneratedLine.{sum_of}
use Rattle.vx_column.specs.Columns.{seen_rows}
use Rattle.vx_generated.proofs.ScanLemmas.{id_ty}
use Rattle.vx_generated.proofs.scanning.sum_of.Given as goal

-- the sum of the values so far, each of at most 2 ^ 63 either way
abbrev pub invariant-loop-value : goal.invariant-loop-value
invariant-loop-value l = record {
  sum : l.sum ≡ sum_of (seen_rows id_ty (take l.value-index l.fn.values));
  above : neg_ℤ (pos (l.value-index * 9223372036854775808)) ≤ℤ l.sum;
  below : l.sum ≤ℤ pos (l.value-index * 9223372036854775808);
}
