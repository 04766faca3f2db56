use Rattle.std.proofs.Common.{◌≡◌, map, option_map, List}
use Rattle.vx_sql.specs.StatementAnswers.{key_view}
use Rattle.std.specs.Prelude.{IfOk}
use Rattle.vx_laws_explaining.specs.Explained.{UsedColumn, used_column}
use Rattle.vx_explaining.specs.ExplainedViews.{column_view}
use Rattle.std.proofs.Common.{subst}
use Rattle.vx_explaining.proofs.columns.used_columns.Goals as goal

pub returns : goal.returns
returns c =
    let order = option_map key_view c.args.order.now in
    subst (λ (made : List UsedColumn). IfOk c.columns_by.result (λ columns. map column_view columns.items ≡ made))
    (λ i. map (used_column (λ name. c.in_ok-filtering.ensures name i) order (λ name. c.in_ok-projecting.ensures name i)) c.args.names.now)
    c.columns_by.ensures
