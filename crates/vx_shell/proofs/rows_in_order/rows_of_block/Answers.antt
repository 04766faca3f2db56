use Rattle.std.proofs.Common.{subst, List, [], Ok, Err}
use Rattle.vx_dtype.specs.TypeViews.{type_view}
use Rattle.vx_dtype.specs.declared.values.ScalarValue.{ScalarValue}
use Rattle.vx_column.specs.Columns.{seen_rows}
use Rattle.vx_scan.specs.BlockRuns.{RunsBlock}
use Rattle.vx_scan.specs.ErrorKinds.{kind_of}
use Rattle.vx_shell.proofs.OrderedSteps.{block_comes}
use Rattle.vx_shell.proofs.rows_in_order.rows_of_block.Goals as goal

pub scan_refusal-requires : goal.scan_refusal-requires
scan_refusal-requires g c =
    let h = c.requires.prepared in
    let first = g.S.ColumnStore.seen c.args.store.now in
    let last = g.S.ColumnStore.seen c.scan_kept_block.new.store in
    let run = c.in-Err.ensures.runs h.0 h.1 h.2 in
    block_comes (kind_of c.in-Err.error) h.0 h.1 c.args.block first last run.made run.ends

pub returns-in-Ok-clause-gives : goal.returns-in-Ok-clause-gives
returns-in-Ok-clause-gives g c = λ f p h.
    let first = g.S.ColumnStore.seen c.args.store.now in
    let last = g.S.ColumnStore.seen c.scan_kept_block.new.store in
    let u = type_view c.args.scan.now.projection.dtype in
    let now = seen_rows u c.scan_kept_block.new.rows.items in
    subst (λ (xs : List ScalarValue). RunsBlock [] f p c.args.block first last (seen_rows u xs) now (Ok tt)) c.new-rows.ensures.items (c.in-Ok.ensures.runs f p h)

pub returns-in-Err-clause-gives : goal.returns-in-Err-clause-gives
returns-in-Err-clause-gives g c = λ f p h.
    let first = g.S.ColumnStore.seen c.args.store.now in
    let last = g.S.ColumnStore.seen c.scan_kept_block.new.store in
    let u = type_view c.args.scan.now.projection.dtype in
    let now = seen_rows u c.scan_kept_block.new.rows.items in
    let error = c.in-Err.error in (
      error,
      now,
      subst (λ (xs : List ScalarValue). RunsBlock [] f p c.args.block first last (seen_rows u xs) now (Err error)) c.new-rows.ensures.items
          (c.in-Err.ensures.runs f p h),
      c.scan_refusal.ensures,
    )
