use Rattle.std.proofs.Common.{◌≡◌, true, ap, sym, ◌∙◌, subst}
use Rattle.std.proofs.Math.ListN.{replicate}
use Rattle.vx_dtype.specs.Fits.{fits}
use Rattle.vx_dtype.specs.RawViews.{raw_view}
use Rattle.vx_words.specs.Words.{truth_val}
use Rattle.vx_column.specs.Columns.{seen}
use Rattle.vx_column.specs.Cells.{cell_rows, ArePartsOf}
use Rattle.vx_column.proofs.CellLemmas.{constant_row}
use Rattle.vx_column.proofs.TruthLemmas.{truth_seen}
use Rattle.vx_column.proofs.columns.ColumnRef.truth_at.Goals as goal

pub returns-in-Constant : goal.returns-in-Constant
returns-in-Constant c =
    let rows : replicate c.in-Constant.len (seen c.args.self.now.ty c.in-Constant.value) ≡ c.args.self.now.rows = ap (cell_rows c.args.self.now.ty) (sym c.in-Constant.is) ∙ c.cells.ensures.rows in
    let fit : fits (raw_view c.in-Constant.value) c.args.self.now.ty ≡ true = subst (ArePartsOf c.args.self.now.ty) c.in-Constant.is c.cells.ensures.parts in
    ap truth_val c.truth_of.ensures ∙ truth_seen c.args.self.now.ty (raw_view c.in-Constant.value) c.requires.truths fit ∙ constant_row c.args.self.now _ _ _ rows c.requires.row
