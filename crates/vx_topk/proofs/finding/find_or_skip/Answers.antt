use Rattle.std.proofs.Common.{◌≡◌, ◌∙◌, ◌+◌, ◌++◌, ap₂, sym, refl, subst, map, true, false, List, [], ◌∷◌}
use Rattle.vx_dtype.specs.TypeViews.{type_view}
use Rattle.vx_dtype.specs.declared.values.ScalarValue.{ScalarValue}
use Rattle.vx_column.specs.Columns.{seen_rows, values_fit}
use Rattle.vx_laws_topk.specs.TopRows.{bounded_filter}
use Rattle.vx_laws_topk.specs.TopPhases.{keyed_projection}
use Rattle.vx_laws_topk.specs.BoundLaws.{keyed_type, unpacked}
use Rattle.vx_scan.specs.declared.errors.ScanError.TheVariants as errors
use Rattle.vx_topk.specs.FirstRows.{HoldFirst, start_of}
use Rattle.vx_topk.specs.TopRuns.{TakesTurn}
use Rattle.vx_topk.specs.declared.finding.Finding.{Finding}
use Rattle.vx_topk.proofs.TurnLemmas.{the-error, bound-there, rule-there, slots-fine, scan-fine, skips-as-ruled, turn-out, turn-in, turn-ends, turn-ends-behind}
use Rattle.vx_topk.proofs.finding.find_or_skip.Goals as goal

pub rules_out-requires-clause-rule : goal.rules_out-requires-clause-rule
rules_out-requires-clause-rule g c =
    let h = c.requires.ready in
    let zones = (g.S.ColumnStore.seen c.args.store.now).zones in
    let top = c.args.top.now in
    let first = c.args.finding.now.first in
    let place = start_of c.args.block in
    let slots = c.in_ok-bound.field-0 ∷ [] in
    let same = bound-there zones h.0 h.1 top h.2 place first h.3 h.5 slots h.4 c.in_ok-bound.ensures in (
      bounded_filter h.0,
      rule-there zones h.0 h.1 top h.2 place first h.3 h.5 c.zones.result.now c.zones.ensures.zones,
      slots-fine zones h.0 h.1 top h.2 place first h.3 h.5 slots same,
    )

pub rows_of_block-requires-clause-prepared : goal.rows_of_block-requires-clause-prepared
rows_of_block-requires-clause-prepared g c =
    let h = c.requires.ready in
    let zones = (g.S.ColumnStore.seen c.args.store.now).zones in
    let top = c.args.top.now in
    let first = c.args.finding.now.first in
    let place = start_of c.args.block in
    let slots = c.in_ok-bound.field-0 ∷ [] in
    let same = bound-there zones h.0 h.1 top h.2 place first h.3 h.5 slots h.4 c.in_ok-bound.ensures in
    (bounded_filter h.0, keyed_projection h.0, scan-fine zones h.0 h.1 top h.2 place first h.3 h.5 slots same)

pub returns-then-branch-clause-turn : goal.returns-then-branch-clause-turn
returns-then-branch-clause-turn g c = λ ask v found ready asked held ruled some.
    let seen = g.S.ColumnStore.seen c.args.store.now in
    let top = c.args.top.now in
    let was = c.args.finding.now in
    let now : Finding = record { first = was.first; skipped = c.push.new.self; ruled = c.rules_out.new.self } in
    let block = c.args.block in
    let place = start_of block in
    let slots = c.in_ok-bound.field-0 ∷ [] in
    let same = bound-there seen.zones ask v top found place was.first ready held slots asked c.in_ok-bound.ensures in
    let out =
    skips-as-ruled seen.zones ask v top found place was.first ready held block c.zones.result.now slots was.ruled c.rules_out.new.self c.in_ok-rules_out.field-0 true some same c.zones.ensures.zones
    ruled c.in_ok-rules_out.ensures c.if-branch.true in
    turn-out ask v found block seen was now tt out.0 held refl c.in_ok-push.ensures.items out.1

pub returns-in_err-rows-clause-turn : goal.returns-in_err-rows-clause-turn
returns-in_err-rows-clause-turn g c = λ ask v found ready asked held ruled some.
    let seen = g.S.ColumnStore.seen c.args.store.now in
    let last = g.S.ColumnStore.seen c.rows_of_block.new.store in
    let top = c.args.top.now in
    let was = c.args.finding.now in
    let now : Finding = record { first = was.first; skipped = was.skipped; ruled = c.rules_out.new.self } in
    let block = c.args.block in
    let place = start_of block in
    let slots = c.in_ok-bound.field-0 ∷ [] in
    let same = bound-there seen.zones ask v top found place was.first ready held slots asked c.in_ok-bound.ensures in
    let kept =
    (skips-as-ruled seen.zones ask v top found place was.first ready held block c.zones.result.now slots was.ruled c.rules_out.new.self c.in_ok-rules_out.field-0 false some same c.zones.ensures.zones
    ruled c.in_ok-rules_out.ensures c.if-branch.false).0 in
    let err = c.in_err-rows.field-0.0 in
    let ran = c.in_err-rows.ensures.runs (bounded_filter ask) (keyed_projection ask) (scan-fine seen.zones ask v top found place was.first ready held slots same) in
    let end = the-error c.from_residual-in_err-rows.result err c.from_residual-in_err-rows.ensures.0 c.from_residual-in_err-rows.ensures.1 in
    subst (λ r. TakesTurn ask v found block seen last was now r) (sym end) (turn-ends ask v found block seen last was now slots err err ran.0 kept same refl ran.1)

pub returns-in_err-put_rows-clause-turn : goal.returns-in_err-put_rows-clause-turn
returns-in_err-put_rows-clause-turn g c = λ ask v found ready asked held ruled some.
    let seen = g.S.ColumnStore.seen c.args.store.now in
    let last = g.S.ColumnStore.seen c.rows_of_block.new.store in
    let top = c.args.top.now in
    let was = c.args.finding.now in
    let now : Finding = record { first = c.put_rows.new.self; skipped = was.skipped; ruled = c.rules_out.new.self } in
    let block = c.args.block in
    let place = start_of block in
    let slots = c.in_ok-bound.field-0 ∷ [] in
    let same = bound-there seen.zones ask v top found place was.first ready held slots asked c.in_ok-bound.ensures in
    let kept =
    (skips-as-ruled seen.zones ask v top found place was.first ready held block c.zones.result.now slots was.ruled c.rules_out.new.self c.in_ok-rules_out.field-0 false some same c.zones.ensures.zones
    ruled c.in_ok-rules_out.ensures c.if-branch.false).0 in
    let ran = c.in_ok-rows.ensures.runs (bounded_filter ask) (keyed_projection ask) (scan-fine seen.zones ask v top found place was.first ready held slots same) in
    let end = the-error c.from_residual-in_err-put_rows.result errors.NoMemory c.from_residual-in_err-put_rows.ensures.0 c.from_residual-in_err-put_rows.ensures.1 in
    subst (λ r. TakesTurn ask v found block seen last was now r) (sym end)
    (turn-ends-behind ask v found block seen last was now slots errors.NoMemory (seen_rows (type_view top.scan.projection.dtype) c.in_ok-rows.rows.items) kept same refl ran)

pub returns-clause-turn : goal.returns-clause-turn
returns-clause-turn g c = λ ask v found ready asked held ruled some.
    let seen = g.S.ColumnStore.seen c.args.store.now in
    let last = g.S.ColumnStore.seen c.rows_of_block.new.store in
    let top = c.args.top.now in
    let was = c.args.finding.now in
    let now : Finding = record { first = c.put_rows.new.self; skipped = was.skipped; ruled = c.none.result } in
    let block = c.args.block in
    let place = start_of block in
    let slots = c.in_ok-bound.field-0 ∷ [] in
    let same = bound-there seen.zones ask v top found place was.first ready held slots asked c.in_ok-bound.ensures in
    let kept =
    (skips-as-ruled seen.zones ask v top found place was.first ready held block c.zones.result.now slots was.ruled c.rules_out.new.self c.in_ok-rules_out.field-0 false some same c.zones.ensures.zones
    ruled c.in_ok-rules_out.ensures c.if-branch.false).0 in
    let ran = c.in_ok-rows.ensures.runs (bounded_filter ask) (keyed_projection ask) (scan-fine seen.zones ask v top found place was.first ready held slots same) in
    let t = keyed_type ask.key_type v in
    let fit : values_fit t c.as_slice.result.now ≡ true = ap₂ values_fit (sym ready.rows) c.as_slice.ensures.value ∙ c.in_ok-rows.ensures.fit in
    turn-in ask v found block seen last was now tt slots (type_view top.scan.projection.dtype) c.in_ok-rows.rows.items kept same ready.rows ran
    (subst (λ (xs : List ScalarValue). HoldFirst ask.key_type v (found ++ map unpacked (seen_rows t xs)) (start_of (block + 1)) c.put_rows.new.self) c.as_slice.ensures.value
    (c.in_ok-put_rows.ensures.holds ask.key_type v found held fit)) refl c.none.ensures
