use Rattle.std.proofs.Common.{◌<◌, length, subst, arith}
use Rattle.vx_dtype.specs.RawViews.{raw_view}
use Rattle.vx_dtype.specs.TypeViews.{type_view}
use Rattle.vx_prune.specs.Finding.{Finds}
use Rattle.vx_prune.proofs.ElementLemmas.{some_falsified-is}
use Rattle.vx_prune.proofs.lists.elements_falsified.Goals as goal

pub returns : goal.returns
returns g c =
    let some : 0 < length c.args.elements.now = omega (arith, c.if-elements-eq0.false) in
    subst (λ find. Finds g.C.StatsCatalog.answer g.C.StatsCatalog.asked find c.args.catalog.now c.some_falsified.new.catalog c.some_falsified.result)
    (some_falsified-is raw_view (type_view c.args.dtype.now) c.args.value.now c.args.elements.now some) c.some_falsified.ensures
