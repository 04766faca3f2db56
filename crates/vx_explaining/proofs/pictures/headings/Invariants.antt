-- The names of the columns so far are written, and those of the others are left.
use Rattle.std.proofs.Common.{◌≡◌, ◌++◌, drop, map}
use Rattle.std.specs.String.{string_bytes}
use Rattle.vx_laws_explaining.specs.ExplainedPictures.{headings}
use Rattle.vx_explaining.specs.ExplainedViews.{column_view}
use Rattle.vx_explaining.proofs.pictures.headings.Given as goal

abbrev pub invariant-loop-column : goal.invariant-loop-column
invariant-loop-column l =
    string_bytes l.names ++ headings l.column (map column_view (drop l.column l.fn.columns)) ≡ headings 0 (map column_view l.fn.columns)
