use Rattle.std.proofs.Common.{rules, ◌≡◌, ap, ◌<◌, ◌≤◌, length, arith}
use Rattle.std.proofs.Math.ListN.{get_or}
use Rattle.vx_expr.specs.Trees.{trees_of}
use Rattle.vx_expr.specs.Heights.{height, highest}
use Rattle.vx_expr.proofs.TreeLemmas.{height_at}
use Rattle.vx_expr.proofs.equality.+feed.Goals as goal

pub feed_list-feed-requires : goal.feed_list-feed-requires
feed_list-feed-requires g t c κs within =
    let items = c.args.values.now in
    let x = c.index-values-i.result in
    let within_items : c.loop-i.i < length items = search rules in
    let d = height_at items c.loop-i.i x within_items in
    let at : x ≡ get_or items c.loop-i.i x = search rules in
    let below : height x ≤ highest (trees_of items) = omega (arith, d, ap height at) in
    (omega (arith, below, c.decreases), search rules)
