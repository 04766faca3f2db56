use Rattle.std.proofs.Common.{◌+◌, ◌<◌, ◌≤◌, length, arith}
use Rattle.std.proofs.lemmas.List.{drop_more}
use Rattle.vx_dtype.specs.Values.{Val, null_val}
use Rattle.vx_column.specs.Columns.{row_at}
use Rattle.vx_wire_bytes.specs.Fields.{IsShort, IsText}
use Rattle.vx_wire_bytes.specs.ValueForms.{TextsAre}
use Rattle.vx_laws_file.specs.Cells.{raw_value, cell_bytes}
use Rattle.vx_file_bytes.proofs.WritingLoops.{writing_goes_on, writing_is_long}
use Rattle.vx_file_bytes.proofs.columns_writing.write_range.Goals as goal

pub returns-then-len-start-ge-LONG-clause-err : goal.returns-then-len-start-ge-LONG-clause-err
returns-then-len-start-ge-LONG-clause-err c p =
    let column = c.args.column.now in
    let old = c.args.out.now.items in
    let new = c.write_cell.new.out.items in
    let within : c.loop-i.i < length column.rows = omega (arith, c.loop-i-test.true, c.len-i-end.ensures) in
    let here = drop_more column.rows c.loop-i.i null_val within in
    let w = writing_goes_on (cell_bytes column.ty) (λ (v : Val). TextsAre IsText (raw_value v)) (λ (v : Val). TextsAre IsShort (raw_value v)) old c.loop-i.out.items new column.rows c.loop-i.i
    (row_at column c.loop-i.i) here c.in_ok-write_cell.ensures.ok.0 c.in_ok-write_cell.ensures.ok.1 c.loop-i.invariant.0 in
    let long : length old + 4294967296 ≤ length new = omega (arith, c.if-len-start-ge-LONG.true, c.len.ensures, c.len-start.ensures) in
    writing_is_long (cell_bytes column.ty) (λ (v : Val). TextsAre IsText (raw_value v)) (λ (v : Val). TextsAre IsShort (raw_value v)) old new column.rows (c.loop-i.i + 1) w long p.1
