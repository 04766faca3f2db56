use Rattle.std.proofs.Common.{refl, sym, subst}
use Rattle.vx_dtype.specs.TypeViews.{type_view}
use Rattle.vx_column.specs.Columns.{seen_rows}
use Rattle.vx_scan.specs.Steps.{Finding, TakesTurn, found_view}
use Rattle.vx_scan.specs.declared.errors.ScanError.TheVariants.{NoMemory}
use Rattle.vx_scan.proofs.ReadLemmas.{the_error}
use Rattle.vx_scan.proofs.StandLemmas.{turn_uncounted, turn_skips, turn_runs}
use Rattle.vx_scan.proofs.finding.scan_or_skip.Goals as goal

pub returns-in_err-push-clause-turn : goal.returns-in_err-push-clause-turn
returns-in_err-push-clause-turn g c = λ f p h.
    let first = g.S.ColumnStore.seen c.args.store.now in
    let u = type_view c.args.scan.now.projection.dtype in
    let was = c.args.found.now in
    let now : Finding = record { rows = seen_rows u was.rows.items; kept = was.kept.items; skipped = c.push.new.self.items } in
    let same = the_error c.from_residual.result NoMemory c.from_residual.ensures.0 c.from_residual.ensures.1 in
    subst (λ r. TakesTurn c.args.is_out c.args.slots.now f p c.args.block first first (found_view u was) now r) (sym same)
    (turn_uncounted c.args.is_out c.args.slots.now f p c.args.block first (found_view u was) now)

pub returns-in_err-push-2-clause-turn : goal.returns-in_err-push-2-clause-turn
returns-in_err-push-2-clause-turn g c = λ f p h.
    let first = g.S.ColumnStore.seen c.args.store.now in
    let u = type_view c.args.scan.now.projection.dtype in
    let was = c.args.found.now in
    let now : Finding = record { rows = seen_rows u was.rows.items; kept = c.push-2.new.self.items; skipped = was.skipped.items } in
    let same = the_error c.from_residual-in_err-push-2.result NoMemory c.from_residual-in_err-push-2.ensures.0 c.from_residual-in_err-push-2.ensures.1 in
    subst (λ r. TakesTurn c.args.is_out c.args.slots.now f p c.args.block first first (found_view u was) now r) (sym same)
    (turn_uncounted c.args.is_out c.args.slots.now f p c.args.block first (found_view u was) now)

pub returns-then-is_out-clause-turn : goal.returns-then-is_out-clause-turn
returns-then-is_out-clause-turn g c = λ f p h.
    let first = g.S.ColumnStore.seen c.args.store.now in
    let u = type_view c.args.scan.now.projection.dtype in
    let was = c.args.found.now in
    let now : Finding = record { rows = seen_rows u was.rows.items; kept = was.kept.items; skipped = c.push.new.self.items } in
    turn_skips c.args.is_out c.args.slots.now f p c.args.block first (found_view u was) now c.if-is_out.true refl refl c.in_ok-push.ensures.items

pub returns-clause-turn : goal.returns-clause-turn
returns-clause-turn g c = λ f p h.
    let first = g.S.ColumnStore.seen c.args.store.now in
    let last = g.S.ColumnStore.seen c.scan_kept_block.new.store in
    let u = type_view c.args.scan.now.projection.dtype in
    let was = c.args.found.now in
    let now : Finding = record { rows = seen_rows u c.scan_kept_block.new.rows.items; kept = c.push-2.new.self.items; skipped = was.skipped.items } in
    turn_runs c.args.is_out c.args.slots.now f p c.args.block first last (found_view u was) now c.scan_kept_block.result c.if-is_out.false c.in_ok-push-2.ensures.items refl
    (c.scan_kept_block.ensures.runs f p h)
