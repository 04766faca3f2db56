-- The cells of the columns so far are written, and those of the others are left.
use Rattle.std.proofs.Common.{◌≡◌, ◌++◌, drop, map}
use Rattle.std.specs.String.{string_bytes}
use Rattle.vx_laws_explaining.specs.ExplainedPictures.{cells}
use Rattle.vx_explaining.specs.ExplainedViews.{column_view}
use Rattle.vx_explaining.proofs.pictures.cells.Given as goal

abbrev pub invariant-loop-column : goal.invariant-loop-column
invariant-loop-column l =
    string_bytes l.cells ++ cells l.fn.block l.fn.skipped l.column (map column_view (drop l.column l.fn.columns))
    ≡ cells l.fn.block l.fn.skipped 0 (map column_view l.fn.columns)
