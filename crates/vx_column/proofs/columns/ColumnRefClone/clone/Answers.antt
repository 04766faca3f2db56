use Rattle.std.proofs.Common.{◌≡◌, ap, sym, ◌∙◌}
use Rattle.vx_dtype.specs.TypeViews.{type_view}
use Rattle.vx_column.specs.Columns.{Column, column}
use Rattle.vx_column.specs.Cells.{cell_rows}
use Rattle.vx_column.specs.PlainValues.{numbers_vals}
use Rattle.vx_column.proofs.columns.ColumnRefClone.clone.Goals as goal

pub returns-in_ok-clone-in-Numbers : goal.returns-in_ok-clone-in-Numbers
returns-in_ok-clone-in-Numbers c =
    let rows : numbers_vals c.in-Numbers.numbers.value ≡ c.args.self.now.rows = ap (cell_rows c.args.self.now.ty) (sym c.in-Numbers.is) ∙ c.cells.ensures.rows in
    let type : type_view c.in_ok-dtype.dtype ≡ c.args.self.now.ty = c.in_ok-dtype.ensures.cases ∙ ap (λ (d : Column). d.ty) c.self.view_is in
    record { cases = c.of_shared_numbers.ensures ∙ (λ j. column (type j) ((ap numbers_vals c.in_ok-clone-in-Numbers.ensures.cases ∙ rows) j)) }
