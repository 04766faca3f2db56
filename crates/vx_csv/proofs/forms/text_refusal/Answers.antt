use Rattle.std.proofs.Common.{◌≡◌, ◌∙◌, ◌+◌, ◌<◌, sym, ap, true, false, length, drop, arith}
use Rattle.std.specs.Str.{is_utf8}
use Rattle.csv.specs.Records.{fields_of}
use Rattle.vx_laws_csv.specs.Cells.{cell_at}
use Rattle.vx_laws_csv.specs.Refusals.{not_text}
use Rattle.vx_laws_csv.specs.Sheets.{text_refusal}
use Rattle.vx_csv.proofs.Steps.{test-holds, test-fails}
use Rattle.vx_csv.proofs.RecordCells.{text-step}
use Rattle.vx_csv.proofs.forms.text_refusal.Goals as goal

pub returns-then-not-is_text : goal.returns-then-not-is_text
returns-then-not-is_text c =
    let cells = fields_of c.args.line.now in
    let row = c.args.row in
    let i = c.loop-i.i in
    let within : i < length cells = omega (arith, c.loop-i-test.true, c.len-i-end.ensures) in
    let test : is_utf8 (cell_at i cells) ≡ false = ap is_utf8 (sym c.cell_at.ensures) ∙ sym c.is_text.ensures ∙ c.if-not-is_text.true in
    test-fails (text_refusal row 1 cells) (text_refusal row (i + 1 + 1) (drop (i + 1) cells)) (is_utf8 (cell_at i cells)) (not_text row (i + 1))
    (c.loop-i.invariant ∙ text-step row (i + 1) i cells within) test

pub loop-i-preserved : goal.loop-i-preserved
loop-i-preserved c =
    let cells = fields_of c.args.line.now in
    let row = c.args.row in
    let i = c.loop-i.i in
    let within : i < length cells = omega (arith, c.loop-i-test.true, c.len-i-end.ensures) in
    let test : is_utf8 (cell_at i cells) ≡ true = ap is_utf8 (sym c.cell_at.ensures) ∙ sym c.is_text.ensures ∙ c.if-not-is_text.false in
    test-holds (text_refusal row 1 cells) (text_refusal row (i + 1 + 1) (drop (i + 1) cells)) (is_utf8 (cell_at i cells)) (not_text row (i + 1))
    (c.loop-i.invariant ∙ text-step row (i + 1) i cells within) test
