use Rattle.std.proofs.Common.{◌≡◌, ◌+◌, map, drop}
use Rattle.csv.specs.Records.{fields_of}
use Rattle.vx_laws_csv.specs.Sheets.{rows_refusal}
use Rattle.vx_csv.proofs.forms.rows_refusal.Given as goal

-- what is left to test
abbrev pub invariant-loop-i : goal.invariant-loop-i
invariant-loop-i l = rows_refusal l.fn.width 1 (map fields_of l.fn.rows) ≡ rows_refusal l.fn.width (l.i + 1) (map fields_of (drop l.i l.fn.rows))
