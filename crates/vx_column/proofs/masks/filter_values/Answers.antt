use Rattle.std.proofs.Common.{◌≡◌, ◌<◌, ◌∙◌, true, ap, length, arith}
use Rattle.vx_dtype.specs.Fits.{fits}
use Rattle.vx_dtype.specs.RawViews.{raw_view}
use Rattle.vx_dtype.specs.TypeViews.{type_view}
use Rattle.vx_column.specs.Columns.{seen_rows}
use Rattle.vx_column.proofs.RowLemmas.{fits_at, values_fit_more}
use Rattle.vx_column.proofs.KeptLemmas.{length_seen}
use Rattle.vx_column.proofs.KeptPlaces.{kept_value_step, kept_rows_end}
use Rattle.vx_column.proofs.masks.filter_values.Goals as goal

pub prove-unreachable-requires : goal.prove-unreachable-requires
prove-unreachable-requires c =
    let past = c.if-prove.true in
    let inside = c.in-Some.ensures.within in
    omega (arith, c.len-places.ensures)

pub bounds-values-i : goal.bounds-values-i
bounds-values-i c =
    let inside = c.in-Some.ensures.within in
    omega (arith, c.requires.lengths)

pub overflow_add-from : goal.overflow_add-from
overflow_add-from c =
    let inside = c.if-prove.false in
    let fits = c.len-places.type_inv in
    record { fits = omega arith }

pub kept-preserved : goal.kept-preserved
kept-preserved c =
    let first = c.in-Some.ensures in
    let after = first.from_there in
    let inside = first.within in
    let within : c.in-Some.i < length c.args.values.now = omega (arith, c.requires.lengths) in
    let fit : fits (raw_view c.in_ok-clone.field-0) (type_view c.args.dtype.now) ≡ true = ap (λ r. fits r (type_view c.args.dtype.now)) c.in_ok-clone.ensures.cases ∙ fits_at (type_view c.args.dtype.now) c.args.values.now c.in-Some.i c.index-values-i.result c.requires.values within c.index-values-i.is in (
      omega arith,
      rw c.in_ok-push.ensures.items (values_fit_more (type_view c.args.dtype.now) c.kept.kept.items c.in_ok-clone.field-0 c.kept.invariant.1 fit),
      kept_value_step (type_view c.args.dtype.now) c.args.values.now c.args.keep.now c.requires.lengths c.kept.kept.items _ c.kept.from c.in-Some.i c.index-values-i.result c.in_ok-clone.field-0 first c.index-values-i.is c.in_ok-clone.ensures.cases c.in_ok-push.ensures.items c.kept.invariant.2,
    )

pub returns-clause-values : goal.returns-clause-values
returns-clause-values c =
    kept_rows_end (seen_rows (type_view c.args.dtype.now) c.args.values.now) c.args.keep.now (length_seen (type_view c.args.dtype.now) c.args.values.now ∙ c.requires.lengths) (seen_rows (type_view c.args.dtype.now) c.kept.kept.items) c.kept.from c.kept.invariant.0 c.in_default.ensures c.kept.invariant.2
