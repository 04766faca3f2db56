use Rattle.std.proofs.Common.{◌∙◌, ap, ℕ}
use Rattle.std.specs.Prelude.{nat_eq}
use Rattle.vx_dtype.specs.TypeViews.{type_view}
use Rattle.vx_semantics.specs.Tables.{Zones}
use Rattle.vx_topk.specs.TopEnds.{numbers_of, top_ask}
use Rattle.vx_topk.proofs.ReadyLemmas.{typed-here}
use Rattle.vx_topk.proofs.ReportLemmas.{none-report}
use Rattle.vx_topk.proofs.tops.top_rows.Goals as goal

pub returns-then-k-eq0-clause-ends : goal.returns-then-k-eq0-clause-ends
returns-then-k-eq0-clause-ends g c =
    let seen = g.S.ColumnStore.seen c.args.store.now in
    let t = type_view c.in_ok-key_dtype.key_dtype in
    let v = type_view c.in_ok-dtype.dtype in
    let ask = top_ask c.args.filter.now c.args.projection.now c.args.key.now c.args.descending c.args.k t in
    let typed = typed-here c.args.filter.now c.args.projection.now c.args.key.now c.args.descending c.args.k seen c.zones.result.now c.zones-2.result.now t v c.zones.ensures.zones c.zones-2.ensures.zones
    c.in_ok-key_dtype.ensures.0 c.in_ok-key_dtype.ensures.1 c.in_ok-dtype.ensures in (
      t,
      none-report ask v seen c.in_ok-no_rows.field-0 (ap (λ (n : ℕ). nat_eq n 0) c.if-k-eq0.true) typed c.zones.ensures.agrees c.in_ok-no_rows.ensures.dtype c.in_ok-no_rows.ensures.rows
          (c.in_ok-no_rows.ensures.skipped ∙ ap (λ (z : Zones). numbers_of z.lengths) c.zones-zones.ensures.zones),
    )
