-- The columns of the names so far.
use Rattle.std.proofs.Common.{◌≡◌, map, option_map, take}
use Rattle.std.specs.HashSet.{contains}
use Rattle.std.specs.Str.{bytes_eq}
use Rattle.vx_sql.specs.StatementAnswers.{key_view}
use Rattle.vx_laws_explaining.specs.Explained.{used_column}
use Rattle.vx_explaining.specs.ExplainedViews.{column_view}
use Rattle.vx_explaining.proofs.columns.columns_by.Given as goal

abbrev pub invariant-loop-name : goal.invariant-loop-name
invariant-loop-name l =
    map column_view l.columns.items
    ≡ map (used_column (contains bytes_eq l.fn.filtering) (option_map key_view l.fn.order) (contains bytes_eq l.fn.projecting)) (take l.name-index l.fn.names)
