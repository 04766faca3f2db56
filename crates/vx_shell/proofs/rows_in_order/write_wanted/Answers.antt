use Rattle.std.proofs.Common.{length, refl}
use Rattle.vx_dtype.specs.TypeViews.{type_view}
use Rattle.vx_laws_shell.specs.Running.{end_by}
use Rattle.vx_shell.proofs.OrderedSteps.{wanted_whole, wanted_part, wanted_written}
use Rattle.vx_shell.proofs.rows_in_order.write_wanted.Goals as goal

pub write_rows-requires : goal.write_rows-requires
write_rows-requires g c = c.wanted_rows.ensures.fit (type_view c.args.dtype.now) c.requires.fit

pub returns-in-Ok-clause-writes : goal.returns-in-Ok-clause-writes
returns-in-Ok-clause-writes g c =
    let t = type_view c.args.dtype.now in
    let rows = c.args.rows.now in
    let before = end_by g.O.Sink.written g.O.Sink.faults c.args.output.now in
    let after = end_by g.O.Sink.written g.O.Sink.faults c.write_rows.new.output in
    wanted_written t rows c.args.written c.behind.result before after (length rows) refl
    (wanted_whole t t c.wanted_rows.result.now rows c.args.written.left before.bytes after.bytes refl (c.wanted_rows.ensures.rows t) c.in-Ok.ensures.whole)
    c.behind.ensures.rows c.behind.ensures.scanned c.behind.ensures.left

pub returns-in-Err-clause-writes : goal.returns-in-Err-clause-writes
returns-in-Err-clause-writes g c =
    let t = type_view c.args.dtype.now in
    let before = end_by g.O.Sink.written g.O.Sink.faults c.args.output.now in
    let after = end_by g.O.Sink.written g.O.Sink.faults c.write_rows.new.output in (
      wanted_part t t c.wanted_rows.result.now c.args.rows.now c.args.written.left before.bytes after.bytes refl (c.wanted_rows.ensures.rows t) c.in-Err.ensures.cut,
      c.in-Err.ensures.refused,
    )
