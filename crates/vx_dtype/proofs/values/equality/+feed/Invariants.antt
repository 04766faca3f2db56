use Rattle.std.proofs.Common.{◌≡◌, fold, map, drop}
use Rattle.vx_dtype.specs.Feeds.{raws_feed}
use Rattle.vx_dtype.specs.RawViews.{raw_view, raws_of}
use Rattle.vx_dtype.proofs.values.equality.+feed.Given as goal

-- what is left to feed
abbrev pub invariant-feed_values-loop-i : goal.invariant-feed_values-loop-i
invariant-feed_values-loop-i g l =
    fold g.H.Hasher.write l.fn.state (raws_feed (raws_of (map raw_view l.values)))
    ≡ fold g.H.Hasher.write l.state (raws_feed (raws_of (map raw_view (drop l.i l.values))))
