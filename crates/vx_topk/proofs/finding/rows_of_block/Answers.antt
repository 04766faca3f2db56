use Rattle.std.proofs.Common.{sym, subst, List, Ok, Err}
use Rattle.vx_dtype.specs.TypeViews.{type_view}
use Rattle.vx_dtype.specs.declared.values.ScalarValue.{ScalarValue}
use Rattle.vx_column.specs.Columns.{seen_rows}
use Rattle.vx_scan.specs.BlockRuns.{RunsBlock}
use Rattle.vx_topk.specs.TopRuns.{GivesRows}
use Rattle.vx_topk.proofs.TurnLemmas.{the-error}
use Rattle.vx_topk.proofs.finding.rows_of_block.Goals as goal

pub returns-in_err-scan_kept_block-clause-runs : goal.returns-in_err-scan_kept_block-clause-runs
returns-in_err-scan_kept_block-clause-runs g c = λ f p h.
    let first = g.S.ColumnStore.seen c.args.store.now in
    let last = g.S.ColumnStore.seen c.scan_kept_block.new.store in
    let u = type_view c.args.top.now.scan.projection.dtype in
    let err = c.in_err-scan_kept_block.field-0.0 in
    let now = seen_rows u c.scan_kept_block.new.rows.items in
    let same = the-error c.from_residual.result err c.from_residual.ensures.0 c.from_residual.ensures.1 in
    subst (λ r. GivesRows c.args.slots.now f p c.args.block u first last r) (sym same) (
      now,
      subst (λ (xs : List ScalarValue). RunsBlock c.args.slots.now f p c.args.block first last (seen_rows u xs) now (Err err)) c.new-rows.ensures.items
          (c.in_err-scan_kept_block.ensures.runs f p h),
    )

pub returns-clause-runs : goal.returns-clause-runs
returns-clause-runs g c = λ f p h.
    let first = g.S.ColumnStore.seen c.args.store.now in
    let last = g.S.ColumnStore.seen c.scan_kept_block.new.store in
    let u = type_view c.args.top.now.scan.projection.dtype in
    let now = seen_rows u c.scan_kept_block.new.rows.items in
    subst (λ (xs : List ScalarValue). RunsBlock c.args.slots.now f p c.args.block first last (seen_rows u xs) now (Ok tt)) c.new-rows.ensures.items
    (c.in_ok-scan_kept_block.ensures.runs f p h)
