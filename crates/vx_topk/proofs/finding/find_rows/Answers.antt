use Rattle.std.proofs.Common.{◌≡◌, ◌∙◌, ◌<◌, ap, sym, refl, subst, ℕ, List, [], length, arith, false}
use Rattle.std.specs.Prelude.{nat_eq}
use Rattle.vx_semantics.specs.Pruning.{rules_out}
use Rattle.vx_semantics.specs.Tables.{Zones}
use Rattle.vx_laws_topk.specs.TopRows.{bounded_filter, bound_before, bound_slots}
use Rattle.vx_scan.proofs.ScanLemmas.{same_store, same_after}
use Rattle.vx_topk.specs.Ready.{IsReady}
use Rattle.vx_topk.specs.RuledRuns.{AreRuledBehind}
use Rattle.vx_topk.specs.TopRuns.{IsFoundTo, FindsTo, EndsFinding}
use Rattle.vx_topk.proofs.ReadyLemmas.{typed-top}
use Rattle.vx_topk.proofs.TurnLemmas.{the-error}
use Rattle.vx_topk.proofs.FindLemmas.{find-start, turn-finds, turn-stops}
use Rattle.vx_topk.proofs.finding.find_rows.Goals as goal

pub loop-block-init : goal.loop-block-init
loop-block-init g c =
    let seen = g.S.ColumnStore.seen c.args.store.now in
    let first = c.new-first.result in (
      same_store seen,
      c.new-first.ensures.asked.0,
      c.new-first.ensures.asked.1,
      λ ask v ready ec ed. (
        [],
        subst (λ (ns : List ℕ). IsFoundTo ask v 0 seen seen [] first ns) (sym c.new-skipped.ensures.items)
            (find-start ask v seen first (c.new-first.ensures.holds ask.key_type v ready.can.typed.plain)),
        c.none-ruled.ensures (λ n. rules_out seen.zones (bound_slots ask (bound_before ask [])) n (bounded_filter ask)),
      ),
      g.met.S.ColumnStore.stays c.args.store.now,
    )

pub find_or_skip-requires-clause-ready : goal.find_or_skip-requires-clause-ready
find_or_skip-requires-clause-ready g c =
    let h = c.requires.ready in
    let so_far = c.loop-block.invariant in
    let f = so_far.3 h.0 h.1 h.2 h.3 h.4 in (
      h.0,
      h.1,
      f.0,
      subst (λ (z : Zones). IsReady z h.0 h.1 c.args.top.now) (sym so_far.0.zones) h.2,
      record { ty = refl; count = h.3 ∙ sym so_far.1; descending = h.4 ∙ sym so_far.2 },
      f.1.holds,
      subst (λ (z : Zones). AreRuledBehind h.0 z f.0 c.loop-block.finding.ruled) (sym so_far.0.zones) f.2,
      ap (λ (n : ℕ). nat_eq n 0) h.3 ∙ h.5,
    )

pub loop-block-preserved : goal.loop-block-preserved
loop-block-preserved g c =
    let first = g.S.ColumnStore.seen c.args.store.now in
    let middle = g.S.ColumnStore.seen c.loop-block.store in
    let last = g.S.ColumnStore.seen c.find_or_skip.new.store in
    let block = c.loop-block.block in
    let so_far = c.loop-block.invariant in
    let same : length c.lengths.result.now ≡ length first.zones.lengths = ap (λ (ns : List ℕ). length ns) (c.lengths.ensures.lengths ∙ ap (λ (z : Zones). z.lengths) c.zones.ensures.zones) in
    let there : block < length first.zones.lengths = omega (arith, same, c.loop-block-test.true) in (
      same_after first middle last so_far.0 c.in_ok-find_or_skip.ensures.same,
      c.in_ok-find_or_skip.ensures.asked.0 ∙ so_far.1,
      c.in_ok-find_or_skip.ensures.asked.1 ∙ so_far.2,
      λ ask v ready ec ed.
          let f = so_far.3 ask v ready ec ed in
          turn-finds ask v block first middle last c.loop-block.finding c.find_or_skip.new.finding tt ready.can.filter_slots c.zones.ensures.agrees there f
          (c.in_ok-find_or_skip.ensures.turn ask v f.0 (subst (λ (z : Zones). IsReady z ask v c.args.top.now) (sym so_far.0.zones) ready)
          (record { ty = refl; count = ec ∙ sym so_far.1; descending = ed ∙ sym so_far.2 }) f.1.holds
          (subst (λ (z : Zones). AreRuledBehind ask z f.0 c.loop-block.finding.ruled) (sym so_far.0.zones) f.2) (ap (λ (n : ℕ). nat_eq n 0) ec ∙ c.requires.ready.5)),
      g.met.S.ColumnStore.goes_on c.args.store.now c.loop-block.store c.find_or_skip.new.store so_far.4 c.in_ok-find_or_skip.ensures.moves,
    )

pub returns-in_err-find_or_skip-clause-moves : goal.returns-in_err-find_or_skip-clause-moves
returns-in_err-find_or_skip-clause-moves g c =
    g.met.S.ColumnStore.goes_on c.args.store.now c.loop-block.store c.find_or_skip.new.store c.loop-block.invariant.4 c.in_err-find_or_skip.ensures.moves

pub returns-in_err-find_or_skip-clause-ends : goal.returns-in_err-find_or_skip-clause-ends
returns-in_err-find_or_skip-clause-ends g c = λ ask v ready ec ed some.
    let first = g.S.ColumnStore.seen c.args.store.now in
    let middle = g.S.ColumnStore.seen c.loop-block.store in
    let last = g.S.ColumnStore.seen c.find_or_skip.new.store in
    let block = c.loop-block.block in
    let so_far = c.loop-block.invariant in
    let same : length c.lengths.result.now ≡ length first.zones.lengths = ap (λ (ns : List ℕ). length ns) (c.lengths.ensures.lengths ∙ ap (λ (z : Zones). z.lengths) c.zones.ensures.zones) in
    let there : block < length first.zones.lengths = omega (arith, same, c.loop-block-test.true) in
    let f = so_far.3 ask v ready ec ed in
    let here : nat_eq ask.count 0 ≡ false = ap (λ (n : ℕ). nat_eq n 0) ec ∙ some in
    let err = c.in_err-find_or_skip.field-0.0 in
    let end = the-error c.from_residual.result err c.from_residual.ensures.0 c.from_residual.ensures.1 in
    subst (λ r. EndsFinding ask v first last r) (sym end)
    (turn-stops ask v block first middle last c.loop-block.finding c.find_or_skip.new.finding v err (typed-top first.zones ask v ready.can) ready.can.filter_slots here there f
    (c.in_err-find_or_skip.ensures.turn ask v f.0 (subst (λ (z : Zones). IsReady z ask v c.args.top.now) (sym so_far.0.zones) ready)
    (record { ty = refl; count = ec ∙ sym so_far.1; descending = ed ∙ sym so_far.2 }) f.1.holds
    (subst (λ (z : Zones). AreRuledBehind ask z f.0 c.loop-block.finding.ruled) (sym so_far.0.zones) f.2) here))

pub returns-clause-ends : goal.returns-clause-ends
returns-clause-ends g c = λ ask v ready ec ed some.
    let first = g.S.ColumnStore.seen c.args.store.now in
    let now = g.S.ColumnStore.seen c.loop-block.store in
    let same : length c.lengths.result.now ≡ length first.zones.lengths = ap (λ (ns : List ℕ). length ns) (c.lengths.ensures.lengths ∙ ap (λ (z : Zones). z.lengths) c.zones.ensures.zones) in
    subst (λ (n : ℕ). FindsTo ask v n first now c.loop-block.finding) (omega (arith, same, c.loop-block-test.false, c.loop-block.auto.block-end)) (c.loop-block.invariant.3 ask v ready ec ed)
