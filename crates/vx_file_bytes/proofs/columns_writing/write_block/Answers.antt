use Rattle.std.proofs.lemmas.Result.{err_from_is_err_and}
use Rattle.vx_wire_bytes.specs.Fields.{IsShort, IsText}
use Rattle.vx_laws_file.specs.FileForms.{column_bytes}
use Rattle.vx_file_bytes.specs.WritingParts.{ColumnIs, BlockIs}
use Rattle.vx_file_bytes.proofs.WritingLoops.{item_here, writing_breaks}
use Rattle.vx_file_bytes.proofs.WritingLemmas.{too_long}
use Rattle.vx_file_bytes.proofs.columns_writing.write_block.Goals as goal

pub returns-in_err-length-clause-err : goal.returns-in_err-length-clause-err
returns-in_err-length-clause-err c =
    let cs = c.args.columns.now in
    let own = c.index-columns-i.result in
    let here = item_here cs c.loop-i.i own c.loop-i-test.true c.index-columns-i.is in
    let p = err_from_is_err_and c.from_residual.result c.from_residual.ensures.1 in
    rw (p.1, p.2)
    (too_long (BlockIs IsShort cs) (ColumnIs IsShort own) c.in_err-length.field-0.0
    (writing_breaks column_bytes (ColumnIs IsText) (ColumnIs IsShort) c.args.ranges.now.items c.loop-i.ranges.items cs c.loop-i.i own here c.loop-i.invariant.0) c.in_err-length.ensures.err)
