use Rattle.std.proofs.Common.{◌<◌, refl, arith, ap, sym, ◌∙◌, length, option_map}
use Rattle.std.proofs.lemmas.List.{take_all}
use Rattle.vx_column.proofs.RowLemmas.{values_fit_more}
use Rattle.vx_kernels.proofs.ZippedRows.{map_taken_step}
use Rattle.vx_kernels.proofs.CastLemmas.{raw_casts, casts_none, casts_some, cast_fault_at, source_kept}
use Rattle.vx_column.specs.Columns.{seen}
use Rattle.vx_column.specs.RowValues.{shown}
use Rattle.vx_kernels.specs.RawRules.{raw_cast}
use Rattle.vx_dtype.specs.Casts.{cast3}
use Rattle.vx_dtype.specs.Values.{null_val}
use Rattle.vx_dtype.specs.RawViews.{raw_view}
use Rattle.vx_dtype.specs.TypeViews.{type_view}
use Rattle.vx_kernels.proofs.casts.cast_rows.Goals as goal

pub value_at-value-requires-clause-kept : goal.value_at-value-requires-clause-kept
value_at-value-requires-clause-kept c = source_kept _ _ c.requires

pub returns-in-None : goal.returns-in-None
returns-in-None c =
    let within : c.loop-i.i < length c.args.c.now.rows = omega (arith, c.loop-i-test.true) in
    let casts = raw_casts _ (type_view c.args.target.now) _ c.requires c.value_at-value.ensures.fit in
    let none = casts_none (type_view c.args.target.now) (seen c.args.c.now.ty (shown c.value_at-value.result)) _ (ap (λ x. raw_cast (type_view c.args.target.now) (raw_view x)) (sym c.get.ensures) ∙ sym c.in_ok-value.ensures ∙ ap (option_map raw_view) c.in-None.is) casts in
    cast_fault_at (type_view c.args.target.now) c.args.c.now.rows c.loop-i.i null_val within (ap (cast3 (type_view c.args.target.now)) (sym c.value_at-value.ensures.value) ∙ none)

pub loop-i-preserved : goal.loop-i-preserved
loop-i-preserved c =
    let within : c.loop-i.i < length c.args.c.now.rows = omega (arith, c.loop-i-test.true) in
    let casts = raw_casts _ (type_view c.args.target.now) _ c.requires c.value_at-value.ensures.fit in
    let some = casts_some (type_view c.args.target.now) (seen c.args.c.now.ty (shown c.value_at-value.result)) _ _ (ap (λ x. raw_cast (type_view c.args.target.now) (raw_view x)) (sym c.get.ensures) ∙ sym c.in_ok-value.ensures ∙ ap (option_map raw_view) c.in-Some.is) casts in
    let more = values_fit_more _ _ _ c.loop-i.invariant.0 some.0 in
    let made = some.1 ∙ ap (cast3 (type_view c.args.target.now)) c.value_at-value.ensures.value in
    (rw c.in_ok-push-in-Some.ensures.items more, map_taken_step (cast3 (type_view c.args.target.now)) _ c.args.c.now _ _ c.loop-i.i _ within c.in_ok-push-in-Some.ensures.items made c.loop-i.invariant.1)

pub returns : goal.returns
returns c =
    (c.loop-i.invariant.0, rw c.loop-i.invariant.1 (rw (take_all c.loop-i.i c.args.c.now.rows (omega arith)) refl))
