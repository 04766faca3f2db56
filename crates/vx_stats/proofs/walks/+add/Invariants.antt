use Rattle.std.proofs.Common.{◌≡◌, ◌+◌, ◌*◌, ◌++◌, map}
use Rattle.vx_dtype.specs.TypeRules.{depth_of, depth_below}
use Rattle.vx_dtype.specs.TypeViews.{type_view}
use Rattle.vx_dtype.proofs.FieldsFrom.{fields_from}
use Rattle.vx_zones.specs.ZoneViews.{stat_view}
use Rattle.vx_stats.specs.ColumnFacts.{column_rows}
use Rattle.vx_stats.specs.Walks.{walked_below}
use Rattle.vx_stats.proofs.walks.+add.Given as goal

-- twice the depth of a type, and one more than that of the deepest field
abbrev pub decreases-add_at : goal.decreases-add_at
decreases-add_at l = 2 * depth_of (type_view l.dtype.now)

abbrev pub decreases-add_below : goal.decreases-add_below
decreases-add_below l = 2 * depth_below l.fields.now + 1

-- the statistics so far, and those of the fields from the place on
abbrev pub invariant-add_below-loop-i : goal.invariant-add_below-loop-i
invariant-add_below-loop-i l =
    let columns = column_rows l.fn.columns in
    map stat_view l.fn.stats.items ++ walked_below l.fn.path l.fn.fields columns
    ≡ map stat_view l.stats.items ++ walked_below l.fn.path (fields_from l.i l.fn.fields) columns
