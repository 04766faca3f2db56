use Rattle.std.proofs.Common.{◌≡◌}
use Rattle.vx_dtype.specs.Types.{Ty}
use Rattle.vx_laws_topk.specs.TopRows.{TopAsk}
use Rattle.vx_scan.specs.Stores.{IsSameStore}
use Rattle.vx_topk.specs.Ready.{IsReady}
use Rattle.vx_topk.specs.TopRuns.{FindsTo}
use Rattle.vx_topk.proofs.finding.find_rows.Given as goal

-- the finding has come to this block
abbrev pub invariant-loop-block : goal.invariant-loop-block
invariant-loop-block l m =
    let first = l.S.ColumnStore.seen m.fn.store in
    IsSameStore first (l.S.ColumnStore.seen m.store)
    × (m.finding.first.count ≡ m.fn.count)
    × (m.finding.first.descending ≡ m.fn.descending)
    × ((ask : TopAsk) (v : Ty) → IsReady first.zones ask v m.fn.top → ask.count ≡ m.fn.count → ask.descending ≡ m.fn.descending →
    FindsTo ask v m.block first (l.S.ColumnStore.seen m.store) m.finding)
    × l.S.ColumnStore.moves m.fn.store m.store
