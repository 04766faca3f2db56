use Rattle.std.proofs.Common.{◌<◌, ap, ◌∙◌, length, arith}
use Rattle.vx_dtype.specs.Equal.{ty_eq}
use Rattle.vx_dtype.specs.TypeViews.{type_view}
use Rattle.vx_zones.proofs.PlainLemmas.{some_typed}
use Rattle.vx_zones.proofs.zone_columns.ZoneColumn.all_have.Goals as goal

pub returns : goal.returns
returns c =
    let values = c.values-values.result.now in
    let u = type_view c.args.dtype.now in
    let some : 0 < length values.rows = omega (arith, c.if-len-eq0.false, c.len.ensures) in
    c.eq.ensures ∙ ap (λ t. ty_eq t u) c.dtype.ensures.shown ∙ some_typed values.ty u values.rows c.args.self.now.values some c.values-values.ensures.held.typed
