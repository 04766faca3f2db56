use Rattle.std.proofs.Common.{◌≡◌, ◌∙◌, ap, sym, refl, ℕ, ◌<◌, Bool, false, List, length, get_or, Ok, Err, arith, subst}
use Rattle.vx_dtype.specs.TypeViews.{type_view}
use Rattle.vx_column.specs.Columns.{seen_rows}
use Rattle.vx_semantics.specs.Tables.{Zones}
use Rattle.vx_scan.specs.Runs.{IsScannedTo}
use Rattle.vx_scan.specs.Steps.{EndsBlocks, found_view}
use Rattle.vx_scan.proofs.ReadLemmas.{the_error}
use Rattle.vx_scan.proofs.ScanLemmas.{same_after}
use Rattle.vx_scan.proofs.StandLemmas.{prepared_moved, flags_long, flag_is, turn_stands}
use Rattle.vx_scan.proofs.scans.scan_blocks.Goals as goal

pub bounds-flags-block : goal.bounds-flags-block
bounds-flags-block g c =
    let first = g.S.ColumnStore.seen c.args.store.now in
    let ruled = c.requires.ruled in
    let same : length c.lengths.result.now ≡ length first.zones.lengths = ap (λ (ns : List ℕ). length ns) (c.lengths.ensures.lengths ∙ ap (λ (z : Zones). z.lengths) c.zones.ensures.zones) in
    let long : length c.args.flags.now ≡ length first.zones.lengths = flags_long first.zones c.args.slots.now ruled.0 ruled.1 c.args.scan.now c.args.flags.now ruled.2 in
    omega (arith, same, long, c.loop-block-test.true)

pub loop-block-preserved : goal.loop-block-preserved
loop-block-preserved g c =
    let first = g.S.ColumnStore.seen c.args.store.now in
    let middle = g.S.ColumnStore.seen c.loop-block.store in
    let last = g.S.ColumnStore.seen c.scan_or_skip.new.store in
    let slots = c.args.slots.now in
    let scan = c.args.scan.now in
    let block = c.loop-block.block in
    let u = type_view scan.projection.dtype in
    let so_far = c.loop-block.invariant in
    let same : length c.lengths.result.now ≡ length first.zones.lengths = ap (λ (ns : List ℕ). length ns) (c.lengths.ensures.lengths ∙ ap (λ (z : Zones). z.lengths) c.zones.ensures.zones) in
    let there : block < length first.zones.lengths = omega (arith, same, c.loop-block-test.true) in
    let flag : Bool = get_or c.args.flags.now block false in (
      same_after first middle last so_far.0 c.in_ok-scan_or_skip.ensures.same,
      c.in_ok-scan_or_skip.ensures.fit,
      λ f p h.
          turn_stands flag slots f p scan block first middle last (found_view u c.loop-block.found) (found_view u c.scan_or_skip.new.found) (Ok c.in_ok-scan_or_skip.field-0) h.prepared c.zones.ensures.agrees there
          (flag_is first.zones slots f p scan c.args.flags.now block flag false h there refl)
          (c.in_ok-scan_or_skip.ensures.turn f p (prepared_moved first middle slots f p scan so_far.0.zones h.prepared)) (so_far.2 f p h),
      g.met.S.ColumnStore.goes_on c.args.store.now c.loop-block.store c.scan_or_skip.new.store so_far.3 c.in_ok-scan_or_skip.ensures.moves,
    )

pub returns-in_err-scan_or_skip-clause-moves : goal.returns-in_err-scan_or_skip-clause-moves
returns-in_err-scan_or_skip-clause-moves g c =
    g.met.S.ColumnStore.goes_on c.args.store.now c.loop-block.store c.scan_or_skip.new.store c.loop-block.invariant.3 c.in_err-scan_or_skip.ensures.moves

pub returns-in_err-scan_or_skip-clause-ends : goal.returns-in_err-scan_or_skip-clause-ends
returns-in_err-scan_or_skip-clause-ends g c = λ f p h.
    let first = g.S.ColumnStore.seen c.args.store.now in
    let middle = g.S.ColumnStore.seen c.loop-block.store in
    let last = g.S.ColumnStore.seen c.scan_or_skip.new.store in
    let slots = c.args.slots.now in
    let scan = c.args.scan.now in
    let block = c.loop-block.block in
    let u = type_view scan.projection.dtype in
    let so_far = c.loop-block.invariant in
    let same : length c.lengths.result.now ≡ length first.zones.lengths = ap (λ (ns : List ℕ). length ns) (c.lengths.ensures.lengths ∙ ap (λ (z : Zones). z.lengths) c.zones.ensures.zones) in
    let there : block < length first.zones.lengths = omega (arith, same, c.loop-block-test.true) in
    let flag : Bool = get_or c.args.flags.now block false in
    let err = c.in_err-scan_or_skip.field-0.0 in
    let end = the_error c.from_residual.result err c.from_residual.ensures.0 c.from_residual.ensures.1 in
    subst (λ r. EndsBlocks slots f p u first last r) (sym end)
    (turn_stands flag slots f p scan block first middle last (found_view u c.loop-block.found) (found_view u c.scan_or_skip.new.found) (Err err) h.prepared c.zones.ensures.agrees there
    (flag_is first.zones slots f p scan c.args.flags.now block flag false h there refl)
    (c.in_err-scan_or_skip.ensures.turn f p (prepared_moved first middle slots f p scan so_far.0.zones h.prepared)) (so_far.2 f p h))

pub returns-clause-ends : goal.returns-clause-ends
returns-clause-ends g c = λ f p h.
    let first = g.S.ColumnStore.seen c.args.store.now in
    let now = g.S.ColumnStore.seen c.loop-block.store in
    let found = c.loop-block.found in
    let same : length c.lengths.result.now ≡ length first.zones.lengths = ap (λ (ns : List ℕ). length ns) (c.lengths.ensures.lengths ∙ ap (λ (z : Zones). z.lengths) c.zones.ensures.zones) in
    subst (λ n. IsScannedTo c.args.slots.now f p n first now (seen_rows (type_view c.args.scan.now.projection.dtype) found.rows.items) found.kept.items found.skipped.items)
    (omega (arith, same, c.loop-block-test.false, c.loop-block.auto.block-end)) (c.loop-block.invariant.2 f p h)
