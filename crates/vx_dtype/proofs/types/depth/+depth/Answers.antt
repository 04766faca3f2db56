use Rattle.std.proofs.Common.{rules, ◌≡◌, ap, ◌<◌, ◌≤◌, ◌^◌, ◌-◌, min, max, length, arith, []}
use Rattle.std.proofs.Math.ListN.{get_or}
use Rattle.vx_dtype.specs.TypeViews.{type_view}
use Rattle.vx_dtype.specs.TypeRules.{depth_of, depth_below}
use Rattle.vx_dtype.proofs.ZippedLemmas.{depth_at, depth_below-step}
use Rattle.vx_dtype.proofs.types.depth.+depth.Goals as goal

pub fields_depth-depth_within-requires : goal.fields_depth-depth_within-requires
fields_depth-depth_within-requires t c =
    let x = c.index-dtype.result.now in
    let names = c.fields.inside.names in
    let items = c.fields.inside.dtypes.value.items in
    let within_items : c.loop-i.i < length items = search rules in
    let d = depth_at type_view names items c.loop-i.i x c.fields.invariant.0 within_items in
    let at : x ≡ get_or items c.loop-i.i x = search rules in
    let same_depth : depth_of (type_view x) ≡ depth_of (type_view (get_or items c.loop-i.i x)) = ap (λ y. depth_of (type_view y)) at in
    let below : depth_of (type_view x) ≤ depth_below c.args.fields.now = omega (arith, d, same_depth, ap depth_below c.fields.view_is) in
    (omega (arith, below, c.decreases), tt)

pub fields_depth-loop-i-preserved : goal.fields_depth-loop-i-preserved
fields_depth-loop-i-preserved t c =
    let x = c.index-dtype.result.now in
    let names = c.fields.inside.names in
    let items = c.fields.inside.dtypes.value.items in
    let within_items : c.loop-i.i < length items = search rules in
    let at : x ≡ get_or items c.loop-i.i x = search rules in
    let same_depth : depth_of (type_view x) ≡ depth_of (type_view (get_or items c.loop-i.i x)) = ap (λ y. depth_of (type_view y)) at in
    let step = depth_below-step type_view names items c.loop-i.i [] x c.fields.invariant.0 within_items in
    let found : c.depth_within.result ≡ min (depth_of (type_view x)) (2 ^ 64 - 1) = c.depth_within.ensures in
    let greater : c.max-deepest.result ≡ max c.loop-i.deepest c.depth_within.result = search rules in
    omega (arith, same_depth, step, found, greater, c.loop-i.invariant)
