use Rattle.std.proofs.Common.{◌∙◌, sym, subst, List, Ok}
use Rattle.vx_dtype.specs.Types.{Bytes}
use Rattle.vx_semantics.specs.Scans.{reads_in}
use Rattle.vx_scan.specs.Steps.{ending, MakesReads}
use Rattle.vx_scan.proofs.ColumnLemmas.{known_column, placed_known, unplaced_further}
use Rattle.vx_scan.proofs.ReadLemmas.{reads_nothing}
use Rattle.vx_scan.proofs.reading.read_unless_known.Goals as goal

pub returns-in_ok-clone-in-Some-clause-reads : goal.returns-in_ok-clone-in-Some-clause-reads
returns-in_ok-clone-in-Some-clause-reads g c =
    let first = g.S.ColumnStore.seen c.args.store.now in
    subst (λ (ns : List Bytes). MakesReads (reads_in c.args.block ns) first first (Ok tt))
    (sym (placed_known c.args.known_names.now c.args.name.now c.in-Some.place (sym c.in-Some.ensures)))
    (reads_nothing first)

pub returns-in_ok-clone-in-Some-clause-column : goal.returns-in_ok-clone-in-Some-clause-column
returns-in_ok-clone-in-Some-clause-column g c = λ h.
    known_column (g.S.ColumnStore.seen c.args.store.now) c.args.block c.args.known_names.now c.args.known.now c.args.name.now c.in-Some.place
    c.in_ok-clone-in-Some.field-0 c.index-known-place.result (sym c.in-Some.ensures) (c.in_ok-clone-in-Some.ensures.cases ∙ c.index-known-place.is) h

pub returns-in-None-clause-reads : goal.returns-in-None-clause-reads
returns-in-None-clause-reads g c =
    subst (λ (ns : List Bytes). MakesReads (reads_in c.args.block ns) (g.S.ColumnStore.seen c.args.store.now) (g.S.ColumnStore.seen c.read_column.new.store) (ending c.read_column.result))
    (sym (unplaced_further c.args.known_names.now c.args.name.now (sym c.in-None.ensures)))
    c.read_column.ensures.reads
