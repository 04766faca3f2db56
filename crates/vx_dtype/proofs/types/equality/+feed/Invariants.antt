use Rattle.std.proofs.Common.{◌≡◌, ◌+◌, ◌*◌, fold}
use Rattle.vx_dtype.specs.TypeRules.{depth_of, depth_below}
use Rattle.vx_dtype.specs.Feeds.{fields_feed}
use Rattle.vx_dtype.specs.TypeViews.{type_view}
use Rattle.vx_dtype.proofs.ZippedLemmas.{fields_from}
use Rattle.vx_dtype.proofs.types.equality.+feed.Given as goal

-- twice the depth, and one more for a list of fields, which is as deep as its deepest
abbrev pub decreases-feed : goal.decreases-feed
decreases-feed g l = 2 * depth_of (type_view l.dtype.now)

abbrev pub decreases-feed_fields : goal.decreases-feed_fields
decreases-feed_fields g l = 2 * depth_below l.fields.now + 1

-- what is left to feed
abbrev pub invariant-feed_fields-loop-i : goal.invariant-feed_fields-loop-i
invariant-feed_fields-loop-i g l =
    fold g.H.Hasher.write l.fn.state (fields_feed l.fields)
    ≡ fold g.H.Hasher.write l.state (fields_feed (fields_from type_view l.i l.fields-inside.names l.fields-inside.dtypes.value.items))
