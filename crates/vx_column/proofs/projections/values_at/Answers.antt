use Rattle.std.proofs.Common.{get_or}
use Rattle.vx_column.specs.StructColumns.{IsAtPlace}
use Rattle.vx_column.proofs.StructLemmas.{all_zip_more}
use Rattle.vx_column.proofs.ProjectionLemmas.{at_place}
use Rattle.vx_column.proofs.projections.values_at.Goals as goal

pub loop-place-preserved : goal.loop-place-preserved
loop-place-preserved c =
    let i = c.loop-place.place-index in
    let within = c.requires i 0 c.loop-place-test.true in
    let here = at_place c.args.values.now (get_or c.args.places.now i 0) c.index-values-place.result c.in_ok-clone.field-0 within c.index-values-place.is c.in_ok-clone.ensures.cases in
    rw c.in_ok-push.ensures.items (all_zip_more (IsAtPlace c.args.values.now) c.args.places.now c.loop-place.taken.items i 0 c.in_ok-clone.field-0 c.loop-place-test.true c.loop-place.invariant here)
