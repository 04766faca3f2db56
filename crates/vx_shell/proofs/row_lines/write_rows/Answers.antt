-- Wherever rows aren't written whole, first bytes of their lines are.
use Rattle.std.proofs.Common.{◌+◌, ◌++◌, sym, subst, take, drop, arith}
use Rattle.std.specs.String.{string_bytes}
use Rattle.vx_column.specs.Columns.{seen, seen_rows}
use Rattle.vx_dtype.specs.TypeViews.{type_view}
use Rattle.vx_dtype.specs.Types.{Bytes}
use Rattle.vx_io.specs.Ends.{AddedPrefix}
use Rattle.vx_laws_shell.specs.Lines.{row_line, row_lines}
use Rattle.vx_shell.specs.Pieces.{WritesFirst}
use Rattle.vx_shell.proofs.RowLines.{first_more, first_on, first_cut, first_stays, one_more_line, cut_of_all, fit_behind, on_err}
use Rattle.vx_shell.proofs.row_lines.write_rows.Goals as goal

pub returns-in_err-push_line-clause-cut : goal.returns-in_err-push_line-clause-cut
returns-in_err-push_line-clause-cut g c =
    let l = c.loop-row in
    let t = type_view c.args.dtype.now in
    let rows = c.args.rows.now in
    let first = g.O.Sink.written c.args.output.now in
    let now = g.O.Sink.written l.output in
    on_err c.from_residual.result
    (cut_of_all t rows l.row-index first now
    (first_stays first now (row_lines (seen_rows t (take l.row-index rows))) (string_bytes l.lines) (row_lines (seen_rows t (drop l.row-index rows))) l.invariant.written))

pub returns-in_err-write_piece-clause-cut : goal.returns-in_err-write_piece-clause-cut
returns-in_err-write_piece-clause-cut g c =
    let l = c.loop-row in
    let t = type_view c.args.dtype.now in
    let rows = c.args.rows.now in
    let row = c.row-item.result in
    let lines = row_lines (seen_rows t (take l.row-index rows)) in
    let first = g.O.Sink.written c.args.output.now in
    let now = g.O.Sink.written l.output in
    let last = g.O.Sink.written c.write_piece.new.output in
    let held = string_bytes c.push_line.new.lines in
    let more : WritesFirst first now (lines ++ row_line (seen t row)) held =
    subst (WritesFirst first now (lines ++ row_line (seen t row))) (sym c.in_ok-push_line.ensures)
    (first_more first now lines (string_bytes l.lines) (row_line (seen t row)) l.invariant.written) in
    let next : WritesFirst first now (row_lines (seen_rows t (take (l.row-index + 1) rows))) held =
    subst (λ (xs : Bytes). WritesFirst first now xs held) (sym (one_more_line t rows l.row-index row c.loop-row-test.true c.row-item.is)) more in
    on_err c.from_residual-in_err-write_piece.result
    (cut_of_all t rows (l.row-index + 1) first last
    (first_cut first now last (row_lines (seen_rows t (take (l.row-index + 1) rows))) held (row_lines (seen_rows t (drop (l.row-index + 1) rows))) next
    c.in_err-write_piece.ensures.cut))

pub loop-row-preserved : goal.loop-row-preserved
loop-row-preserved g c =
    let l = c.loop-row in
    let t = type_view c.args.dtype.now in
    let rows = c.args.rows.now in
    let row = c.row-item.result in
    let lines = row_lines (seen_rows t (take l.row-index rows)) in
    let first = g.O.Sink.written c.args.output.now in
    let now = g.O.Sink.written l.output in
    let last = g.O.Sink.written c.write_piece.new.output in
    let held = string_bytes c.push_line.new.lines in
    let more : WritesFirst first now (lines ++ row_line (seen t row)) held =
    subst (WritesFirst first now (lines ++ row_line (seen t row))) (sym c.in_ok-push_line.ensures)
    (first_more first now lines (string_bytes l.lines) (row_line (seen t row)) l.invariant.written) in
    let next : WritesFirst first now (row_lines (seen_rows t (take (l.row-index + 1) rows))) held =
    subst (λ (xs : Bytes). WritesFirst first now xs held) (sym (one_more_line t rows l.row-index row c.loop-row-test.true c.row-item.is)) more in
    record {
      written = first_on first now last (row_lines (seen_rows t (take (l.row-index + 1) rows))) held (string_bytes c.write_piece.new.lines) next c.in_ok-write_piece.ensures.whole;
      later = omega (arith, l.invariant.later, c.in_ok-write_piece.ensures.later);
      fit = fit_behind t rows l.row-index row c.loop-row-test.true l.invariant.fit;
    }

pub returns-in_err-write_whole-clause-cut : goal.returns-in_err-write_whole-clause-cut
returns-in_err-write_whole-clause-cut g c =
    let l = c.loop-row in
    let t = type_view c.args.dtype.now in
    let rows = c.args.rows.now in
    let first = g.O.Sink.written c.args.output.now in
    let now = g.O.Sink.written l.output in
    let last = g.O.Sink.written c.write_whole.new.output in
    on_err c.from_residual-in_err-write_whole.result
    (cut_of_all t rows l.row-index first last
    (first_cut first now last (row_lines (seen_rows t (take l.row-index rows))) (string_bytes l.lines) (row_lines (seen_rows t (drop l.row-index rows))) l.invariant.written
    (subst (AddedPrefix now last) c.as_bytes.ensures.value c.in_err-write_whole.ensures.cut)))
