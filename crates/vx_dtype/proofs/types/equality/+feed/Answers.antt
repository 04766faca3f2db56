use Rattle.std.proofs.Common.{rules, ◌≡◌, ap, ◌<◌, ◌≤◌, length, arith}
use Rattle.std.proofs.Math.ListN.{get_or}
use Rattle.vx_dtype.specs.TypeViews.{type_view}
use Rattle.vx_dtype.specs.TypeRules.{depth_of, depth_below}
use Rattle.vx_dtype.proofs.ZippedLemmas.{depth_at}
use Rattle.vx_dtype.proofs.types.equality.+feed.Goals as goal

pub feed_fields-feed-requires : goal.feed_fields-feed-requires
feed_fields-feed-requires g t c κs within =
    let x = c.index-dtype.result.now in
    let names = c.fields.inside.names in
    let items = c.fields.inside.dtypes.value.items in
    let within_items : c.loop-i.i < length items = search rules in
    let d = depth_at type_view names items c.loop-i.i x c.fields.invariant.0 within_items in
    let at : x ≡ get_or items c.loop-i.i x = search rules in
    let same_depth : depth_of (type_view x) ≡ depth_of (type_view (get_or items c.loop-i.i x)) = ap (λ y. depth_of (type_view y)) at in
    let below : depth_of (type_view x) ≤ depth_below c.args.fields.now = omega (arith, d, same_depth, ap depth_below c.fields.view_is) in
    (omega (arith, below, c.decreases), search rules)
