use Rattle.vx_laws_explaining.specs.Explanations.{blocks_in, end_in}
use Rattle.vx_explaining.specs.ExplainedViews.{explained_view, form_view}
use Rattle.vx_explaining.proofs.WriteLemmas.{text_as, text_cut, text_then}
use Rattle.vx_explaining.proofs.writing.write_rest.Goals as goal

pub returns-in-Ok : goal.returns-in-Ok
returns-in-Ok g c =
    let form = form_view c.args.form in
    let x = explained_view c.args.explained.now in
    text_then (blocks_in form x 0 x.lengths x.skipped) (end_in form) _ _ _ _ c.in-Ok.ensures
    (text_as c.end_in.result.now (end_in form) _ _ c.write_piece.result c.end_in.ensures c.write_piece.ensures)

pub returns-in-Err : goal.returns-in-Err
returns-in-Err g c = text_cut _ _ _ _ c.in-Err.error c.in-Err.ensures
