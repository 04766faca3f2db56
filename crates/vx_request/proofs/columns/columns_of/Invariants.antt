use Rattle.std.proofs.Common.{◌≡◌, map, drop}
use Rattle.vx_dtype.specs.TypeViews.{type_view}
use Rattle.vx_request.specs.Cells.{columns_of}
use Rattle.vx_request.specs.RequestViews.{cells_view}
use Rattle.vx_request.proofs.ItemLemmas.{found_before}
use Rattle.vx_request.proofs.columns.columns_of.Given as goal

-- the columns so far stand before what is left to make
abbrev pub invariant-loop-i : goal.invariant-loop-i
invariant-loop-i l =
    columns_of (map type_view l.dtypes) (map cells_view l.lists)
    ≡ found_before l.columns.items (columns_of (map type_view (drop l.i l.dtypes)) (map cells_view (drop l.i l.lists)))
