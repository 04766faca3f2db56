use Rattle.std.proofs.Common.{sym, refl, subst, length, inr}
use Rattle.vx_dtype.specs.TypeViews.{type_view}
use Rattle.vx_semantics.specs.Tables.{Zones}
use Rattle.vx_topk.specs.TopEnds.{top_ask}
use Rattle.vx_topk.specs.FirstRows.{IsAskedBy}
use Rattle.vx_topk.specs.Ready.{top_error, CanBeReady}
use Rattle.vx_topk.specs.Tops.{EndsTop}
use Rattle.vx_topk.specs.declared.errors.TopError.TheVariants as errors
use Rattle.vx_topk.proofs.ReadyLemmas.{can-be-ready, ready-there}
use Rattle.vx_topk.proofs.TurnLemmas.{the-error}
use Rattle.vx_topk.proofs.FindLemmas.{find-stops-between}
use Rattle.vx_topk.proofs.ReportLemmas.{find-report, report-fits, stopped-so}
use Rattle.vx_topk.proofs.tops.typed_top_rows.Goals as goal

pub make_ready-requires : goal.make_ready-requires
make_ready-requires g c =
    let seen = g.S.ColumnStore.seen c.args.store.now in
    let v = type_view c.args.dtype in
    let ask = top_ask c.args.filter.now c.args.projection.now c.args.key.now c.args.descending c.args.k (type_view c.args.key_dtype) in
    let can = can-be-ready seen.zones ask v c.requires.typed c.requires.both c.requires.filter c.requires.projection in
    (c.args.k, v, subst (λ (z : Zones). CanBeReady z ask v) (sym c.zones.ensures.zones) can)

pub find_rows-requires : goal.find_rows-requires
find_rows-requires g c =
    let seen = g.S.ColumnStore.seen c.args.store.now in
    let v = type_view c.args.dtype in
    let ask = top_ask c.args.filter.now c.args.projection.now c.args.key.now c.args.descending c.args.k (type_view c.args.key_dtype) in
    let ready =
    ready-there seen.zones c.zones.result.now ask v c.in_ok-top.top c.zones.ensures.zones c.requires.typed c.requires.both c.requires.filter c.requires.projection
    (c.in_ok-top.ensures c.args.k v) in
    record { ready = (ask, v, ready, refl, refl, c.requires.some) }

pub returns-in_err-finding-clause-ends : goal.returns-in_err-finding-clause-ends
returns-in_err-finding-clause-ends g c =
    let seen = g.S.ColumnStore.seen c.args.store.now in
    let last = g.S.ColumnStore.seen c.find_rows.new.store in
    let v = type_view c.args.dtype in
    let ask = top_ask c.args.filter.now c.args.projection.now c.args.key.now c.args.descending c.args.k (type_view c.args.key_dtype) in
    let ready =
    ready-there seen.zones c.zones.result.now ask v c.in_ok-top.top c.zones.ensures.zones c.requires.typed c.requires.both c.requires.filter c.requires.projection
    (c.in_ok-top.ensures c.args.k v) in
    let err = c.in_err-finding.field-0.0 in
    let residual = c.from_residual-in_err-finding in
    let end = the-error residual.result (top_error err) residual.ensures.0 residual.ensures.1 in
    subst (λ r. EndsTop ask v seen last r) (sym end)
    (stopped-so ask v seen last err (top_error err) (c.in_err-finding.ensures.ends ask v ready refl refl c.requires.some) refl)

pub returns-in_err-report-clause-ends : goal.returns-in_err-report-clause-ends
returns-in_err-report-clause-ends g c =
    let seen = g.S.ColumnStore.seen c.args.store.now in
    let last = g.S.ColumnStore.seen c.find_rows.new.store in
    let v = type_view c.args.dtype in
    let ask = top_ask c.args.filter.now c.args.projection.now c.args.key.now c.args.descending c.args.k (type_view c.args.key_dtype) in
    let ready =
    ready-there seen.zones c.zones.result.now ask v c.in_ok-top.top c.zones.ensures.zones c.requires.typed c.requires.both c.requires.filter c.requires.projection
    (c.in_ok-top.ensures c.args.k v) in
    let finding = c.in_ok-finding.finding in
    let f = c.in_ok-finding.ensures.ends ask v ready refl refl c.requires.some in
    let residual = c.from_residual-in_err-report in
    let end = the-error residual.result errors.NoMemory residual.ensures.0 residual.ensures.1 in
    subst (λ r. EndsTop ask v seen last r) (sym end)
    (inr (find-stops-between ask v (length seen.zones.lengths) seen last f.0 finding.first finding.skipped.items v c.requires.typed c.requires.some f.1))

pub returns-clause-ends : goal.returns-clause-ends
returns-clause-ends g c =
    let seen = g.S.ColumnStore.seen c.args.store.now in
    let last = g.S.ColumnStore.seen c.find_rows.new.store in
    let v = type_view c.args.dtype in
    let ask = top_ask c.args.filter.now c.args.projection.now c.args.key.now c.args.descending c.args.k (type_view c.args.key_dtype) in
    let ready =
    ready-there seen.zones c.zones.result.now ask v c.in_ok-top.top c.zones.ensures.zones c.requires.typed c.requires.both c.requires.filter c.requires.projection
    (c.in_ok-top.ensures c.args.k v) in
    let finding = c.in_ok-finding.finding in
    let f = c.in_ok-finding.ensures.ends ask v ready refl refl c.requires.some in
    let asked : IsAskedBy ask ask.key_type finding.first =
    record { ty = refl; count = sym c.in_ok-finding.ensures.asked.0; descending = sym c.in_ok-finding.ensures.asked.1 } in
    find-report ask v seen last finding f.0 c.in_ok-report.field-0 c.requires.typed asked f.1 c.in_ok-report.ensures c.requires.some c.zones.ensures.agrees

pub returns-clause-fit : goal.returns-clause-fit
returns-clause-fit g c =
    let seen = g.S.ColumnStore.seen c.args.store.now in
    let last = g.S.ColumnStore.seen c.find_rows.new.store in
    let v = type_view c.args.dtype in
    let ask = top_ask c.args.filter.now c.args.projection.now c.args.key.now c.args.descending c.args.k (type_view c.args.key_dtype) in
    let ready =
    ready-there seen.zones c.zones.result.now ask v c.in_ok-top.top c.zones.ensures.zones c.requires.typed c.requires.both c.requires.filter c.requires.projection
    (c.in_ok-top.ensures c.args.k v) in
    let finding = c.in_ok-finding.finding in
    let f = c.in_ok-finding.ensures.ends ask v ready refl refl c.requires.some in
    let asked : IsAskedBy ask ask.key_type finding.first =
    record { ty = refl; count = sym c.in_ok-finding.ensures.asked.0; descending = sym c.in_ok-finding.ensures.asked.1 } in
    report-fits ask v seen last finding f.0 c.in_ok-report.field-0 c.requires.typed asked f.1 c.in_ok-report.ensures
