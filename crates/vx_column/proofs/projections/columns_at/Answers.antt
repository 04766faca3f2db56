use Rattle.std.proofs.Common.{get_or, ◌∙◌}
use Rattle.std.proofs.lemmas.List.{get_or_read}
use Rattle.vx_column.specs.Cells.{HasAtPlace}
use Rattle.vx_column.proofs.StructLemmas.{all_zip_more}
use Rattle.vx_column.proofs.projections.columns_at.Goals as goal

pub loop-place-preserved : goal.loop-place-preserved
loop-place-preserved c =
    let i = c.loop-place.place-index in
    let within = c.requires i 0 c.loop-place-test.true in
    let read = get_or_read c.args.columns.now (get_or c.args.places.now i 0) c.index-columns-place.result within c.index-columns-place.is in
    rw c.in_ok-push.ensures.items (all_zip_more (HasAtPlace c.args.columns.now) c.args.places.now c.loop-place.taken.items i 0 c.in_ok-clone.field-0 c.loop-place-test.true c.loop-place.invariant (λ d. c.in_ok-clone.ensures.cases ∙ read d))
