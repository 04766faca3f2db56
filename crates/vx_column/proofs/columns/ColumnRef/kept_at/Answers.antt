use Rattle.std.proofs.Common.{◌≡◌, true, ap, sym, ◌∙◌, subst, get_or}
use Rattle.vx_column.specs.Columns.{seen_rows, values_fit}
use Rattle.vx_column.specs.Cells.{cell_rows, ArePartsOf}
use Rattle.vx_column.proofs.CellLemmas.{values_row, values_fit_at}
use Rattle.vx_column.proofs.columns.ColumnRef.kept_at.Goals as goal

pub returns-in-Rows-clause-value : goal.returns-in-Rows-clause-value
returns-in-Rows-clause-value c =
    let rows : seen_rows c.args.self.now.ty c.in-Rows.rows.value.items ≡ c.args.self.now.rows = ap (cell_rows c.args.self.now.ty) (sym c.in-Rows.is) ∙ c.cells.ensures.rows in
    let read = c.index-values-i.is ∙ ap (λ xs. get_or xs c.args.i c.index-values-i.result) c.values_in-values.ensures in
    values_row c.args.self.now c.in-Rows.rows.value.items c.args.i _ rows c.requires.row read

pub returns-in-Rows-clause-fit : goal.returns-in-Rows-clause-fit
returns-in-Rows-clause-fit c =
    let rows : seen_rows c.args.self.now.ty c.in-Rows.rows.value.items ≡ c.args.self.now.rows = ap (cell_rows c.args.self.now.ty) (sym c.in-Rows.is) ∙ c.cells.ensures.rows in
    let fit : values_fit c.args.self.now.ty c.in-Rows.rows.value.items ≡ true = (subst (ArePartsOf c.args.self.now.ty) c.in-Rows.is c.cells.ensures.parts).fit in
    let read = c.index-values-i.is ∙ ap (λ xs. get_or xs c.args.i c.index-values-i.result) c.values_in-values.ensures in
    values_fit_at c.args.self.now c.in-Rows.rows.value.items c.args.i _ rows fit c.requires.row read
