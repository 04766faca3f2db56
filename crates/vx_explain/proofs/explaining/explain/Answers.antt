use Rattle.std.proofs.Common.{◌∙◌, sym, subst, [], Err}
use Rattle.vx_dtype.specs.TypeRules.{fields_of}
use Rattle.vx_dtype.specs.Types.{Ty}
use Rattle.vx_dtype.specs.TypeViews.{type_view}
use Rattle.vx_semantics.specs.Meaning.{Slots}
use Rattle.vx_wire.specs.Registries.{registered}
use Rattle.vx_scan.specs.Opening.{ArePrepared, PreparesBoth}
use Rattle.vx_scan.specs.declared.errors.ScanError.TheVariants.{NoMemory}
use Rattle.vx_scan.proofs.PrepareLemmas.{both_typed}
use Rattle.vx_scan.proofs.ReadLemmas.{the_error}
use Rattle.vx_explain.specs.Explaining.{Explains}
use Rattle.vx_explain.proofs.ExplainLemmas.{filter_unspelled, projection_unspelled, untyped}
use Rattle.vx_explain.proofs.explaining.explain.Goals as goal

pub returns-in_err-filter_expr : goal.returns-in_err-filter_expr
returns-in_err-filter_expr c =
    let holds = registered c.args.registry.now in
    let err = c.in_err-filter_expr.field-0.0 in
    subst (Explains holds c.args.zones.now c.args.filter.now c.args.projection.now) (sym (the_error c.from_residual.result err c.from_residual.ensures.0 c.from_residual.ensures.1))
    (filter_unspelled holds c.args.zones.now c.args.filter.now c.args.projection.now err c.in_err-filter_expr.ensures)

pub returns-in_err-projection_expr : goal.returns-in_err-projection_expr
returns-in_err-projection_expr c =
    let holds = registered c.args.registry.now in
    let err = c.in_err-projection_expr.field-0.0 in
    let residual = c.from_residual-in_err-projection_expr in
    subst (Explains holds c.args.zones.now c.args.filter.now c.args.projection.now) (sym (the_error residual.result err residual.ensures.0 residual.ensures.1))
    (projection_unspelled holds c.args.zones.now c.args.filter.now c.args.projection.now c.in_ok-filter_expr.filter_expr err c.in_ok-filter_expr.ensures c.in_err-projection_expr.ensures)

pub returns-in_err-both : goal.returns-in_err-both
returns-in_err-both c =
    let holds = registered c.args.registry.now in
    let zones = c.args.zones.now in
    let f = c.in_ok-filter_expr.filter_expr in
    let p = c.in_ok-projection_expr.projection_expr in
    let err = c.in_err-both.field-0.0 in
    let residual = c.from_residual-in_err-both in
    let refused : PreparesBoth zones.columns [] f p (Err err) =
    subst (λ (s : Slots). PreparesBoth zones.columns s f p (Err err)) (c.as_slice.ensures.value ∙ c.new-slots.ensures.items)
    (subst (λ (t : Ty). PreparesBoth (fields_of t) c.as_slice.result.now f p (Err err)) c.dtype.ensures.dtype c.in_err-both.ensures) in
    subst (Explains holds zones c.args.filter.now c.args.projection.now) (sym (the_error residual.result err residual.ensures.0 residual.ensures.1))
    (untyped holds zones c.args.filter.now c.args.projection.now f p err (record { filter_spelled = c.in_ok-filter_expr.ensures; projection_spelled = c.in_ok-projection_expr.ensures }) refused)

pub explanation-requires : goal.explanation-requires
explanation-requires c =
    let zones = c.args.zones.now in
    let f = c.in_ok-filter_expr.filter_expr in
    let p = c.in_ok-projection_expr.projection_expr in
    let both = c.in_ok-both.both in
    subst (λ (s : Slots). ArePrepared zones.columns s f p both) (c.as_slice.ensures.value ∙ c.new-slots.ensures.items)
    (subst (λ (t : Ty). ArePrepared (fields_of t) c.as_slice.result.now f p both) c.dtype.ensures.dtype c.in_ok-both.ensures)

pub returns-in_err-explanation : goal.returns-in_err-explanation
returns-in_err-explanation c =
    let residual = c.from_residual-in_err-explanation in
    subst (Explains (registered c.args.registry.now) c.args.zones.now c.args.filter.now c.args.projection.now)
    (sym (the_error residual.result NoMemory residual.ensures.0 residual.ensures.1)) tt

pub returns : goal.returns
returns c =
    let zones = c.args.zones.now in
    let f = c.in_ok-filter_expr.filter_expr in
    let p = c.in_ok-projection_expr.projection_expr in
    let both = c.in_ok-both.both in
    let prepared : ArePrepared zones.columns [] f p both =
    subst (λ (s : Slots). ArePrepared zones.columns s f p both) (c.as_slice.ensures.value ∙ c.new-slots.ensures.items)
    (subst (λ (t : Ty). ArePrepared (fields_of t) c.as_slice.result.now f p both) c.dtype.ensures.dtype c.in_ok-both.ensures) in
    record {
      filter = f;
      projection = p;
      spelled = record { filter_spelled = c.in_ok-filter_expr.ensures; projection_spelled = c.in_ok-projection_expr.ensures };
      ty = type_view both.1.dtype;
      typed = both_typed zones.columns [] f p both prepared;
      told = c.in_ok-explanation.ensures;
    }
