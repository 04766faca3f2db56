use Rattle.std.proofs.Common.{◌≡◌, ◌∙◌, sym, ap, true, false, Ok}
use Rattle.csv.specs.Reading.{strip_bom}
use Rattle.vx_laws_csv.specs.Sheets.{is_quoted}
use Rattle.vx_csv.specs.ByteReading.{nothing_read, read_behind, seen}
use Rattle.vx_csv.proofs.ReadRecords.{given-closed, refused-open}
use Rattle.vx_csv.proofs.records.records_of.Goals as goal

pub returns-then-is_quoted : goal.returns-then-is_quoted
returns-then-is_quoted c =
    let text = c.args.text.now in
    let r = seen c.in_ok-reading.reading in
    let known : r ≡ read_behind nothing_read (strip_bom text) = c.in_ok-reading.ensures ∙ ap (read_behind nothing_read) c.behind_mark.ensures in
    let quoted : is_quoted r.state ≡ true = sym c.is_quoted.ensures ∙ c.if-is_quoted.true in
    refused-open r text known quoted

pub returns-in-Ok : goal.returns-in-Ok
returns-in-Ok c =
    let text = c.args.text.now in
    let r = seen c.in_ok-reading.reading in
    let known : r ≡ read_behind nothing_read (strip_bom text) = c.in_ok-reading.ensures ∙ ap (read_behind nothing_read) c.behind_mark.ensures in
    let quoted : is_quoted r.state ≡ false = sym c.is_quoted.ensures ∙ c.if-is_quoted.false in
    given-closed r text known quoted ∙ ap Ok (sym c.in-Ok.ensures)
