-- The run has come to this block.
use Rattle.std.proofs.Common.{◌≤◌, []}
use Rattle.vx_expr.specs.Trees.{Tree}
use Rattle.vx_laws_shell.specs.Running.{end_by}
use Rattle.vx_scan.specs.Steps.{IsRuledScan}
use Rattle.vx_scan.specs.Stores.{WhereTold}
use Rattle.vx_shell.specs.OrderedSteps.{Goes, HasComeTo, progress_at, run_start}
use Rattle.vx_shell.proofs.rows_in_order.write_blocks.Given as goal

abbrev pub invariant-loop-block : goal.invariant-loop-block
invariant-loop-block g l =
    let first = g.S.ColumnStore.seen l.fn.store in
    let now = g.S.ColumnStore.seen l.store in
    let start = end_by g.O.Sink.written g.O.Sink.faults l.fn.output in
    let output = end_by g.O.Sink.written g.O.Sink.faults l.output in
    record {
      moves : g.S.ColumnStore.moves l.fn.store l.store;
      goes : Goes first now start output;
      few : l.written.scanned ≤ l.block;
      told : (f p : Tree) → IsRuledScan first.zones [] f p l.fn.scan l.fn.flags → WhereTold first.held
          (HasComeTo f p l.block l.fn.limit l.written.left (run_start first start) (progress_at now output l.written) first.zones);
    }
