use Rattle.std.proofs.Common.{◌≡◌, map, take}
use Rattle.vx_scan.specs.Steps.{kept_column}
use Rattle.vx_scan.proofs.block_scans.kept_columns.Given as goal

-- the columns so far
abbrev pub invariant-loop-i : goal.invariant-loop-i
invariant-loop-i l = l.kept.items ≡ map (kept_column l.fn.keep.rows) (take l.i l.fn.columns)
