use Rattle.std.proofs.Common.{sym, subst}
use Rattle.vx_semantics.specs.Scans.{reads_in}
use Rattle.vx_scan.specs.Steps.{ending, MakesReads, further_names}
use Rattle.vx_scan.specs.declared.errors.ScanError.TheVariants.{NoMemory}
use Rattle.vx_scan.proofs.ColumnLemmas.{columns_grow}
use Rattle.vx_scan.proofs.ReadLemmas.{loop_goes, loop_stops, loop_cut, the_error}
use Rattle.vx_scan.proofs.ScanLemmas.{same_after}
use Rattle.vx_scan.proofs.reading.read_columns.Goals as goal

pub returns-in_err-column-clause-reads : goal.returns-in_err-column-clause-reads
returns-in_err-column-clause-reads g c =
    let first = g.S.ColumnStore.seen c.args.store.now in
    let middle = g.S.ColumnStore.seen c.loop-i.store in
    let last = g.S.ColumnStore.seen c.read_unless_known.new.store in
    let same = the_error c.from_residual.result c.in_err-column.field-0.0 c.from_residual.ensures.0 c.from_residual.ensures.1 in
    subst (λ r. MakesReads (reads_in c.args.block (further_names c.args.known_names.now c.args.names.now)) first last (ending r)) (sym same)
    (loop_stops c.args.block c.args.known_names.now c.args.names.now c.loop-i.i c.index-names-i.result first middle last c.in_err-column.field-0.0
    c.loop-i-test.true c.index-names-i.is c.loop-i.invariant.0 c.loop-i.invariant.1 c.in_err-column.ensures.reads)

pub returns-in_err-push-clause-reads : goal.returns-in_err-push-clause-reads
returns-in_err-push-clause-reads g c =
    let first = g.S.ColumnStore.seen c.args.store.now in
    let middle = g.S.ColumnStore.seen c.loop-i.store in
    let last = g.S.ColumnStore.seen c.read_unless_known.new.store in
    let same = the_error c.from_residual-in_err-push.result NoMemory c.from_residual-in_err-push.ensures.0 c.from_residual-in_err-push.ensures.1 in
    subst (λ r. MakesReads (reads_in c.args.block (further_names c.args.known_names.now c.args.names.now)) first last (ending r)) (sym same)
    (loop_cut c.args.block c.args.known_names.now c.args.names.now c.loop-i.i c.index-names-i.result first middle last
    c.loop-i-test.true c.index-names-i.is c.loop-i.invariant.0 c.loop-i.invariant.1 c.in_ok-column.ensures.reads)

pub returns-in_err-column-clause-moves : goal.returns-in_err-column-clause-moves
returns-in_err-column-clause-moves g c =
    g.met.S.ColumnStore.goes_on c.args.store.now c.loop-i.store c.read_unless_known.new.store c.loop-i.invariant.3 c.in_err-column.ensures.moves

pub returns-in_err-push-clause-moves : goal.returns-in_err-push-clause-moves
returns-in_err-push-clause-moves g c =
    g.met.S.ColumnStore.goes_on c.args.store.now c.loop-i.store c.read_unless_known.new.store c.loop-i.invariant.3 c.in_ok-column.ensures.moves

pub loop-i-preserved : goal.loop-i-preserved
loop-i-preserved g c =
    let first = g.S.ColumnStore.seen c.args.store.now in
    let middle = g.S.ColumnStore.seen c.loop-i.store in
    let last = g.S.ColumnStore.seen c.read_unless_known.new.store in (
      same_after first middle last c.loop-i.invariant.0 c.in_ok-column.ensures.same,
      loop_goes c.args.block c.args.known_names.now c.args.names.now c.loop-i.i c.index-names-i.result first middle last
          c.loop-i-test.true c.index-names-i.is c.loop-i.invariant.0 c.loop-i.invariant.1 c.in_ok-column.ensures.reads,
      columns_grow first middle c.args.block c.args.names.now c.args.known_names.now c.args.known.now c.loop-i.columns.items c.push.new.self.items c.loop-i.i c.index-names-i.result c.in_ok-column.column
          c.loop-i-test.true c.index-names-i.is c.loop-i.invariant.0 c.in_ok-push.ensures.items c.loop-i.invariant.2 c.in_ok-column.ensures.column,
      g.met.S.ColumnStore.goes_on c.args.store.now c.loop-i.store c.read_unless_known.new.store c.loop-i.invariant.3 c.in_ok-column.ensures.moves,
    )
