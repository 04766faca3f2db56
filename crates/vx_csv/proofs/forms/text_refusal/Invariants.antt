use Rattle.std.proofs.Common.{◌≡◌, ◌+◌, drop}
use Rattle.csv.specs.Records.{fields_of}
use Rattle.vx_laws_csv.specs.Sheets.{text_refusal}
use Rattle.vx_csv.proofs.forms.text_refusal.Given as goal

-- what is left to test
abbrev pub invariant-loop-i : goal.invariant-loop-i
invariant-loop-i l = text_refusal l.fn.row 1 (fields_of l.fn.line) ≡ text_refusal l.fn.row (l.i + 1) (drop l.i (fields_of l.fn.line))
