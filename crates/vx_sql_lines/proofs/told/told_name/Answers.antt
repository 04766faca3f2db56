use Rattle.vx_dtype.specs.TypeViews.{type_view}
use Rattle.vx_laws_statements.specs.TableNames.{table_named}
use Rattle.vx_sql_lines.proofs.ToldErrors.{error_told}
use Rattle.vx_sql_lines.proofs.told.told_name.Goals as goal

pub returns-in-Err : goal.returns-in-Err
returns-in-Err c =
    let t = type_view c.args.columns.now in
    error_told c.args.text.now t (table_named c.args.text.now) c.in-Err.error c.told_error.result c.in-Err.ensures c.told_error.ensures
