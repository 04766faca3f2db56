use Rattle.std.proofs.Common.{◌≡◌, ap, ◌∙◌}
use Rattle.vx_dtype.specs.TypeViews.{type_view}
use Rattle.vx_column.specs.Columns.{column, seen_rows}
use Rattle.vx_column.specs.Answers.{unless_faulty}
use Rattle.vx_column.specs.declared.errors.ColumnError.TheVariants.{BadCast}
use Rattle.vx_kernels.proofs.SumLemmas.{faultless}
use Rattle.vx_kernels.proofs.casts.cast_values.Goals as goal

pub returns-in_ok-column_of-in-Some : goal.returns-in_ok-column_of-in-Some
returns-in_ok-column_of-in-Some c =
    let told = rw c.in-Some.is at c.in_ok-made.ensures in
    let made : c.in_ok-column_of-in-Some.field-0 ≡ column (type_view c.args.target.now) (seen_rows (type_view c.args.target.now) c.in-Some.made.items) = rw c.in_ok-clone-in-Some.ensures.cases at c.in_ok-column_of-in-Some.ensures in
    faultless BadCast (type_view c.args.target.now) c.in-Some.made.items _ told.0 made ∙ ap (unless_faulty BadCast) (made ∙ ap (column (type_view c.args.target.now)) told.1)
