use Rattle.std.proofs.Common.{◌≡◌, true, subst}
use Rattle.vx_dtype.specs.TypeViews.{type_view}
use Rattle.vx_column.specs.Columns.{Column, rows_fit}
use Rattle.vx_column.proofs.CellLemmas.{cells_fit}
use Rattle.vx_column.proofs.columns.ColumnRef.dtype.Goals as goal

pub returns-clause-fit : goal.returns-clause-fit
returns-clause-fit c = subst (λ (d : Column). rows_fit d.ty d.rows ≡ true) c.self.view_is (cells_fit (type_view c.self.inside.dtype) c.self.inside.cells c.self.invariant.0)
