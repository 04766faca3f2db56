use Rattle.std.proofs.Common.{take, Ok}
use Rattle.vx_semantics.specs.Scans.{reads_in}
use Rattle.vx_scan.specs.Stores.{IsSameStore}
use Rattle.vx_scan.specs.Steps.{MakesReads, further_names, AreColumnsOf}
use Rattle.vx_scan.proofs.reading.read_columns.Given as goal

-- what is read so far
abbrev pub invariant-loop-i : goal.invariant-loop-i
invariant-loop-i l m =
    let first = l.S.ColumnStore.seen m.fn.store in
    let now = l.S.ColumnStore.seen m.store in
    IsSameStore first now
    × MakesReads (reads_in m.fn.block (further_names m.fn.known_names (take m.i m.fn.names))) first now (Ok tt)
    × (AreColumnsOf first m.fn.block m.fn.known_names m.fn.known → AreColumnsOf first m.fn.block (take m.i m.fn.names) m.columns.items)
    × l.S.ColumnStore.moves m.fn.store m.store
