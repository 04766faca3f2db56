use Rattle.std.proofs.Common.{◌≡◌, ◌*◌, ◌+◌, fold, drop}
use Rattle.vx_column.specs.TypeSizes.{size_of}
use Rattle.vx_column.specs.Cells.{fields_feed}
use Rattle.vx_column.proofs.CellLemmas.{deepest}
use Rattle.vx_column.proofs.equality.+feed.Given as goal

abbrev pub decreases-feed_at : goal.decreases-feed_at
decreases-feed_at g l = 2 * size_of l.column.now.ty

abbrev pub decreases-feed_fields : goal.decreases-feed_fields
decreases-feed_fields g l = 2 * deepest l.columns.now + 1

-- what is left to feed
abbrev pub invariant-feed_fields-loop-k : goal.invariant-feed_fields-loop-k
invariant-feed_fields-loop-k g l =
    fold g.H.Hasher.write l.fn.state (fields_feed l.fn.columns l.fn.i)
    ≡ fold g.H.Hasher.write l.state (fields_feed (drop l.k l.fn.columns) l.fn.i)
