use Rattle.std.proofs.Common.{◌<◌, ap, ◌∙◌, length, arith}
use Rattle.std.specs.Prelude.{slice_index_or}
use Rattle.vx_zones.proofs.PlainLemmas.{typed_here}
use Rattle.vx_zones.proofs.zone_columns.ZoneColumn.scalar_at.Goals as goal

pub returns : goal.returns
returns c =
    let column = c.values.result.now in
    let block = c.args.block in
    let s = c.in_ok-scalar.scalar in
    let within : block < length column.rows = omega (arith, c.requires, c.values.ensures.many) in
    typed_here column block s c.values.ensures.held.plain within c.in_ok-scalar.ensures.dtype c.in_ok-scalar.ensures.value c.value-value.ensures.within
    ∙ ap (λ ss. slice_index_or ss block s) c.values.ensures.held.typed
