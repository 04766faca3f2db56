-- For the checker: no public clause cites this. Three expressions as they stand in a range.
use Rattle.vx_laws_sql.specs.Forms as sql
use Rattle.vx_sql_forms.specs.Views.{typed_view}
use Rattle.vx_sql_forms.specs.declared.ranges.InRange.{InRange}

-- the three expressions with their types
abbrev pub range_view : InRange → sql.InRange
range_view x = record { value = typed_view x.value; lower = typed_view x.lower; upper = typed_view x.upper }
