use Rattle.std.proofs.Common.{◌≡◌, length}
use Rattle.vx_dtype.specs.TypeViews.{type_view}
use Rattle.vx_laws_statements.specs.Clauses.{shown_behind}
use Rattle.vx_sql.specs.SelectLists.{columns_view, AreNames}
use Rattle.vx_sql.proofs.select_lists.add_all.Given as goal

abbrev pub decreases-loop-shown : goal.decreases-loop-shown
decreases-loop-shown l = length l.shown

-- the columns so far, and the parts that are left
abbrev pub invariant-loop-shown : goal.invariant-loop-shown
invariant-loop-shown l =
    (shown_behind (type_view l.scope) (columns_view l.initial.columns) l.initial.shown ≡ shown_behind (type_view l.scope) (columns_view l.columns) l.shown)
    × AreNames l.columns
