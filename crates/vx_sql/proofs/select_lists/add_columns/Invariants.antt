use Rattle.std.proofs.Common.{◌≡◌, map, length}
use Rattle.vx_dtype.specs.TypeViews.{type_view}
use Rattle.vx_laws_statements.specs.Clauses.{added}
use Rattle.vx_sql.specs.SelectLists.{columns_view, AreNames, named_columns}
use Rattle.vx_sql.proofs.select_lists.add_columns.Given as goal

abbrev pub decreases-loop-names : goal.decreases-loop-names
decreases-loop-names l = length l.names

-- the columns so far, and those that are left
abbrev pub invariant-loop-names : goal.invariant-loop-names
invariant-loop-names l =
    (added (columns_view l.initial.columns) (named_columns l.n l.initial.names (map type_view l.initial.dtypes))
    ≡ added (columns_view l.columns) (named_columns l.n l.names (map type_view l.dtypes)))
    × AreNames l.columns
