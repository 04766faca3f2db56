use Rattle.std.proofs.Common.{rules, ◌<◌, length}
use Rattle.vx_dtype.specs.TypeViews.{type_view}
use Rattle.vx_dtype.specs.RawViews.{raw_view}
use Rattle.vx_dtype.proofs.FitLemmas.{fields_fit_step}
use Rattle.vx_dtype.proofs.types.fitting.+fitting.Goals as goal

pub fields_fit-returns-then-not-fits : goal.fields_fit-returns-then-not-fits
fields_fit-returns-then-not-fits t c =
    let within : c.loop-i.i < length c.fields.inside.dtypes.value.items = search rules in
    let step = fields_fit_step type_view raw_view c.args.values.now c.fields.inside.names c.fields.inside.dtypes.value.items c.loop-i.i c.index-values-i.result c.index.result.now c.fields.invariant.0 c.loop-i.invariant.0 within in
    search (rules, step)

pub fields_fit-loop-i-preserved : goal.fields_fit-loop-i-preserved
fields_fit-loop-i-preserved t c =
    let within : c.loop-i.i < length c.fields.inside.dtypes.value.items = search rules in
    let step = fields_fit_step type_view raw_view c.args.values.now c.fields.inside.names c.fields.inside.dtypes.value.items c.loop-i.i c.index-values-i.result c.index.result.now c.fields.invariant.0 c.loop-i.invariant.0 within in
    search (rules, step)
