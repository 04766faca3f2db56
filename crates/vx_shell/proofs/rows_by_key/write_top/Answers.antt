use Rattle.std.proofs.Common.{ap, subst, refl, List, length, arith}
use Rattle.vx_dtype.specs.TypeViews.{type_view}
use Rattle.vx_dtype.specs.Values.{Val}
use Rattle.vx_io.specs.Ends.{Added, AddedPrefix}
use Rattle.vx_laws_shell.specs.Lines.{row_lines}
use Rattle.vx_shell.proofs.KeyedSteps.{raws_seen, raws_are_fit, raws_long}
use Rattle.vx_shell.proofs.rows_by_key.write_top.Goals as goal

pub write_rows-requires : goal.write_rows-requires
write_rows-requires g c =
    raws_are_fit (type_view c.args.report.now.dtype) c.as_slice.result.now c.args.report.now.rows c.as_slice.ensures c.requires.fit

pub overflow_cast-result : goal.overflow_cast-result
overflow_cast-result g c =
    let long = ap (λ ns. length ns) c.as_slice-in-Ok.ensures in
    omega (arith, long, c.requires.few)

pub returns-in-Ok-clause-writes : goal.returns-in-Ok-clause-writes
returns-in-Ok-clause-writes g c =
    let t = type_view c.args.report.now.dtype in
    let raws = c.args.report.now.rows in
    let before = g.O.Sink.written c.args.output.now in
    let after = g.O.Sink.written c.write_rows.new.output in (
      subst (λ (vs : List Val). Added before after (row_lines vs)) (raws_seen t c.as_slice.result.now raws c.as_slice.ensures) c.in-Ok.ensures.whole,
      refl,
      ap (λ ns. length ns) c.as_slice-in-Ok.ensures,
      raws_long t c.as_slice-in-Ok-2.result.now raws c.as_slice-in-Ok-2.ensures,
    )

pub returns-in-Err-clause-writes : goal.returns-in-Err-clause-writes
returns-in-Err-clause-writes g c =
    let t = type_view c.args.report.now.dtype in
    let raws = c.args.report.now.rows in
    let before = g.O.Sink.written c.args.output.now in
    let after = g.O.Sink.written c.write_rows.new.output in (
      subst (λ (vs : List Val). AddedPrefix before after (row_lines vs)) (raws_seen t c.as_slice.result.now raws c.as_slice.ensures) c.in-Err.ensures.cut,
      c.in-Err.ensures.refused,
    )
