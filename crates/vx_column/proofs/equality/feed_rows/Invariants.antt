use Rattle.std.proofs.Common.{◌≡◌, fold, drop}
use Rattle.std.specs.List.{flat_map}
use Rattle.vx_column.specs.ColumnEqual.{val_feed}
use Rattle.vx_column.proofs.equality.feed_rows.Given as goal

-- what is left to feed
abbrev pub invariant-loop-i : goal.invariant-loop-i
invariant-loop-i g l =
    fold g.H.Hasher.write l.fn.state (flat_map val_feed l.fn.column.rows)
    ≡ fold g.H.Hasher.write l.state (flat_map val_feed (drop l.i l.fn.column.rows))
