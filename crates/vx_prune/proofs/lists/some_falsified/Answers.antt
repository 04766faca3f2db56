use Rattle.vx_dtype.specs.RawViews.{raw_view, raws_of}
use Rattle.std.proofs.Common.{map}
use Rattle.vx_dtype.specs.TypeViews.{type_view}
use Rattle.vx_dtype.specs.declared.Stat.TheVariants.{Min, Max}
use Rattle.vx_dtype.specs.Types.{Ty}
use Rattle.vx_dtype.specs.Values.{Raws}
use Rattle.vx_expr.specs.Trees.{Tree}
use Rattle.vx_passes.specs.Catalogs.{Catalog}
use Rattle.vx_passes.specs.Falsifying.{Found, bound_of, found_next, unasked}
use Rattle.vx_prune.specs.Elements.{all_outside, some_falsified}
use Rattle.vx_prune.proofs.FindingLemmas.{fails, stops, next_stops, next_then, nothing_stops}
use Rattle.vx_prune.proofs.lists.some_falsified.Goals as goal

-- what is found behind the greatest value, and behind the least
module _ (e : Tree) (t : Ty) (xs : Raws) where
  abbrev last : Tree → Catalog → Tree → Found
  last greatest k least = unasked (all_outside greatest least t xs)

  abbrev next : Catalog → Tree → Found
  next k greatest = found_next (bound_of k Min e) (last greatest k)

pub returns-in_err-greatest : goal.returns-in_err-greatest
returns-in_err-greatest g c =
    let e = c.args.value.now in
    let t = type_view c.args.dtype.now in
    let xs = raws_of (map raw_view c.args.elements.now) in
    fails (some_falsified e t xs) c.from_residual.ensures.0 (next_stops (λ k. bound_of k Max e) (next e t xs) (stops c.in_err-greatest.ensures))

pub returns-in_err-least : goal.returns-in_err-least
returns-in_err-least g c =
    let e = c.args.value.now in
    let t = type_view c.args.dtype.now in
    let xs = raws_of (map raw_view c.args.elements.now) in
    fails (some_falsified e t xs) c.from_residual-in_err-least.ensures.0
    (next_then (λ k. bound_of k Max e) (next e t xs) c.in_ok-greatest.ensures c.in-Some.is
    (next_stops (λ k. bound_of k Min e) (last e t xs c.in-Some.greatest) (stops c.in_err-least.ensures)))

pub returns-in_err-all_outside : goal.returns-in_err-all_outside
returns-in_err-all_outside g c =
    let e = c.args.value.now in
    let t = type_view c.args.dtype.now in
    let xs = raws_of (map raw_view c.args.elements.now) in
    fails (some_falsified e t xs) c.from_residual-in_err-all_outside.ensures.0
    (next_then (λ k. bound_of k Max e) (next e t xs) c.in_ok-greatest.ensures c.in-Some.is
    (next_then (λ k. bound_of k Min e) (last e t xs c.in-Some.greatest) c.in_ok-least.ensures c.in-Some-2.is
    (nothing_stops g.C.StatsCatalog.answer g.C.StatsCatalog.asked c.bound-2.new.catalog)))
