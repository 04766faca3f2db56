use Rattle.std.proofs.Common.{◌≡◌, true}
use Rattle.vx_dtype.specs.TypeViews.{type_view}
use Rattle.vx_expr.specs.Trees.{Tree}
use Rattle.vx_column.specs.Columns.{values_fit, seen_rows}
use Rattle.vx_scan.specs.Stores.{IsSameStore}
use Rattle.vx_scan.specs.Runs.{IsScannedTo}
use Rattle.vx_scan.specs.Steps.{IsRuledScan}
use Rattle.vx_scan.proofs.scans.scan_blocks.Given as goal

-- the blocks before this one are scanned
abbrev pub invariant-loop-block : goal.invariant-loop-block
invariant-loop-block l m =
    let first = l.S.ColumnStore.seen m.fn.store in
    let u = type_view m.fn.scan.projection.dtype in
    IsSameStore first (l.S.ColumnStore.seen m.store)
    × (values_fit u m.found.rows.items ≡ true)
    × ((f p : Tree) → IsRuledScan first.zones m.fn.slots f p m.fn.scan m.fn.flags →
    IsScannedTo m.fn.slots f p m.block first (l.S.ColumnStore.seen m.store) (seen_rows u m.found.rows.items) m.found.kept.items m.found.skipped.items)
    × l.S.ColumnStore.moves m.fn.store m.store
