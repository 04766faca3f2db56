use Rattle.vx_laws_explaining.specs.Explanations.{front_in, rest_in}
use Rattle.vx_explaining.specs.ExplainedViews.{explained_view, form_view}
use Rattle.vx_explaining.proofs.WriteLemmas.{text_cut, text_then}
use Rattle.vx_explaining.proofs.writing.write_explanation.Goals as goal

pub returns-in-Ok : goal.returns-in-Ok
returns-in-Ok g c =
    let form = form_view c.args.form in
    let x = explained_view c.args.explained.now in
    text_then (front_in form x) (rest_in form x) _ _ _ _ c.in-Ok.ensures c.write_rest.ensures

pub returns-in-Err : goal.returns-in-Err
returns-in-Err g c = text_cut _ _ _ _ c.in-Err.error c.in-Err.ensures
