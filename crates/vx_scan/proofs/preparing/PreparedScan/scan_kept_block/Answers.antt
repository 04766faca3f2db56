use Rattle.std.proofs.Common.{◌≡◌, ◌∙◌, sym, ap, true, false, nat_eq, length, subst}
use Rattle.vx_dtype.specs.TypeViews.{type_view}
use Rattle.vx_column.specs.Columns.{kept_rows, seen_rows}
use Rattle.vx_scan.specs.BlockRuns.{RunsBlock}
use Rattle.vx_scan.proofs.BlockRunLemmas.{block_stops, block_without, block_projects}
use Rattle.vx_scan.proofs.FilterLemmas.{some_left}
use Rattle.vx_scan.proofs.GivenLemmas.{filtered_moved}
use Rattle.vx_scan.proofs.ReadLemmas.{the_error}
use Rattle.vx_scan.proofs.StandLemmas.{prepared_moved}
use Rattle.vx_scan.proofs.preparing.PreparedScan.scan_kept_block.Goals as goal

pub returns-in_err-filtered-clause-runs : goal.returns-in_err-filtered-clause-runs
returns-in_err-filtered-clause-runs g c = λ f p h.
    let first = g.S.ColumnStore.seen c.args.store.now in
    let last = g.S.ColumnStore.seen c.filter_block.new.store in
    let was = seen_rows (type_view c.args.self.now.projection.dtype) c.args.rows.now.items in
    let err = c.in_err-filtered.field-0.0 in
    let same = the_error c.from_residual.result err c.from_residual.ensures.0 c.from_residual.ensures.1 in
    subst (λ r. RunsBlock c.args.slots.now f p c.args.block first last was was r) (sym same)
    (block_stops c.args.slots.now f p c.args.block first last was was err c.in_err-filtered.ensures.same c.zones.ensures.agrees (c.in_err-filtered.ensures.runs f p h))

pub returns-then-filtered-eq0-clause-runs : goal.returns-then-filtered-eq0-clause-runs
returns-then-filtered-eq0-clause-runs g c = λ f p h.
    let first = g.S.ColumnStore.seen c.args.store.now in
    let last = g.S.ColumnStore.seen c.filter_block.new.store in
    let was = seen_rows (type_view c.args.self.now.projection.dtype) c.args.rows.now.items in
    let keep = c.in_ok-filtered.filtered.keep.rows in
    let filtered = c.in_ok-filtered.ensures.filtered f p h in
    let none : nat_eq (length (kept_rows keep keep)) 0 ≡ true = ap (λ n. nat_eq n 0) (sym filtered.count ∙ c.if-filtered-eq0.true) in
    block_without c.args.slots.now f p c.args.block first last was keep c.in_ok-filtered.ensures.same c.zones.ensures.agrees (c.in_ok-filtered.ensures.runs f p h) filtered.told none

pub project_block-requires-clause-prepared : goal.project_block-requires-clause-prepared
project_block-requires-clause-prepared g c =
    let first = g.S.ColumnStore.seen c.args.store.now in
    let middle = g.S.ColumnStore.seen c.filter_block.new.store in
    let f = c.requires.prepared.0 in
    let p = c.requires.prepared.1 in
    let h = c.requires.prepared.2 in
    let same = c.in_ok-filtered.ensures.same in
    let filtered = c.in_ok-filtered.ensures.filtered f p h in (
      f,
      p,
      prepared_moved first middle c.args.slots.now f p c.args.self.now same.zones h,
      filtered_moved first middle c.args.slots.now f c.args.self.now.filter.columns c.args.block c.in_ok-filtered.filtered same filtered,
    )

pub returns-clause-runs : goal.returns-clause-runs
returns-clause-runs g c = λ f p h.
    let first = g.S.ColumnStore.seen c.args.store.now in
    let middle = g.S.ColumnStore.seen c.filter_block.new.store in
    let last = g.S.ColumnStore.seen c.project_block.new.store in
    let u = type_view c.args.self.now.projection.dtype in
    let keep = c.in_ok-filtered.filtered.keep.rows in
    let same = c.in_ok-filtered.ensures.same in
    let filtered = c.in_ok-filtered.ensures.filtered f p h in
    let some : nat_eq (length (kept_rows keep keep)) 0 ≡ false = some_left (length (kept_rows keep keep)) (λ e. c.if-filtered-eq0.false (filtered.count ∙ e)) in
    let moved = prepared_moved first middle c.args.slots.now f p c.args.self.now same.zones h in
    let filtered_there = filtered_moved first middle c.args.slots.now f c.args.self.now.filter.columns c.args.block c.in_ok-filtered.filtered same filtered in
    block_projects c.args.slots.now f p c.args.block first middle last (seen_rows u c.args.rows.now.items) (seen_rows u c.project_block.new.rows.items) keep c.project_block.result same
    c.project_block.ensures.same c.zones.ensures.agrees (c.in_ok-filtered.ensures.runs f p h) filtered.told some (c.project_block.ensures.runs f p moved filtered_there)
    (c.project_block.ensures.rows f p moved filtered_there)

pub returns-clause-moves : goal.returns-clause-moves
returns-clause-moves g c =
    g.met.S.ColumnStore.goes_on c.args.store.now c.filter_block.new.store c.project_block.new.store c.in_ok-filtered.ensures.moves c.project_block.ensures.moves
