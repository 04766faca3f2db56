use Rattle.std.proofs.Common.{◌∙◌, ap, sym, subst, map, Some, Err}
use Rattle.vx_tables.specs.Blocks.{block_view}
use Rattle.vx_request.specs.RequestViews.{told_view}
use Rattle.vx_cutting.specs.Cutting.{blocks_anew}
use Rattle.vx_cutting.specs.CutAnswers.{AnswersCut}
use Rattle.vx_writing.specs.Making.{MakesBlocks}
use Rattle.vx_writing.proofs.MadeTables.{cut_blocks, cut_refused, of_cutting}
use Rattle.vx_writing.proofs.making.blocks_cut.Goals as goal

pub cut_refusal-requires : goal.cut_refusal-requires
cut_refusal-requires c =
    let told = told_view c.args.told.now in
    let same = ap (map block_view) c.as_slice.ensures.value in
    let answer = subst (λ bs. AnswersCut told.zones bs c.args.most (Err c.in-Err.error)) same c.in-Err.ensures in
    of_cutting told.zones told.blocks c.args.most c.in-Err.error c.requires.table answer

pub returns-in-Ok : goal.returns-in-Ok
returns-in-Ok c =
    let told = told_view c.args.told.now in
    let same = ap (map block_view) c.as_slice.ensures.value in
    let cut = c.in-Ok.ensures.0 in
    cut_blocks c.args.most told c.in-Ok.field-0.zones (map block_view c.in-Ok.field-0.blocks.items) c.requires.cuts c.requires.table cut.zones_are
    (cut.blocks_are ∙ ap (blocks_anew c.args.most told.zones) same)

pub returns-in-Err : goal.returns-in-Err
returns-in-Err c =
    let told = told_view c.args.told.now in
    let same = ap (map block_view) c.as_slice.ensures.value in
    let answer = subst (λ bs. AnswersCut told.zones bs c.args.most (Err c.in-Err.error)) same c.in-Err.ensures in
    subst (λ r. MakesBlocks (Some c.args.most) told (Err r)) (sym c.cut_refusal.ensures) (cut_refused c.args.most told c.in-Err.error c.requires.cuts c.requires.table answer)
