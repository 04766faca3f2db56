use Rattle.std.proofs.Common.{ap, ◌∙◌}
use Rattle.vx_dtype.specs.Fits.{fits}
use Rattle.vx_dtype.specs.RawViews.{raw_view}
use Rattle.vx_dtype.specs.TypeViews.{type_view}
use Rattle.vx_prune.proofs.ElementLemmas.{element_fits}
use Rattle.vx_prune.proofs.lists.all_outside.Goals as goal

pub outside-requires : goal.outside-requires
outside-requires c =
    let ty = type_view c.args.dtype.now in
    ap (λ x. fits (raw_view x) ty) c.index-elements-0.is ∙ element_fits raw_view ty c.args.elements.now 0 c.index-elements-0.result c.requires.some c.requires.fit

pub outside-requires-in-loop-i : goal.outside-requires-in-loop-i
outside-requires-in-loop-i c =
    let ty = type_view c.args.dtype.now in
    ap (λ x. fits (raw_view x) ty) c.index-elements-i.is ∙ element_fits raw_view ty c.args.elements.now c.loop-i.i c.index-elements-i.result c.loop-i-test.true c.requires.fit
