use Rattle.std.proofs.Common.{◌≡◌, true, cond, ap, sym, ◌∙◌, subst}
use Rattle.std.proofs.Math.ListN.{replicate}
use Rattle.vx_dtype.specs.Fits.{fits}
use Rattle.vx_dtype.specs.RawViews.{raw_view}
use Rattle.vx_column.specs.Columns.{seen}
use Rattle.vx_column.specs.Cells.{cell_rows, ArePartsOf}
use Rattle.vx_column.proofs.TruthLemmas.{constant_count}
use Rattle.vx_column.proofs.columns.ColumnRef.true_count.Goals as goal

pub returns-then-is_true : goal.returns-then-is_true
returns-then-is_true c =
    let rows : replicate c.in-Constant.len (seen c.args.self.now.ty c.in-Constant.value) ≡ c.args.self.now.rows = ap (cell_rows c.args.self.now.ty) (sym c.in-Constant.is) ∙ c.cells.ensures.rows in
    let fit : fits (raw_view c.in-Constant.value) c.args.self.now.ty ≡ true = subst (ArePartsOf c.args.self.now.ty) c.in-Constant.is c.cells.ensures.parts in
    ap (λ b. cond b c.in-Constant.len 0) (sym c.if-is_true.true) ∙ constant_count c.args.self.now c.in-Constant.len c.in-Constant.value c.truth_of.result c.is_true.result c.requires fit rows c.truth_of.ensures c.is_true.ensures

pub returns-else-is_true : goal.returns-else-is_true
returns-else-is_true c =
    let rows : replicate c.in-Constant.len (seen c.args.self.now.ty c.in-Constant.value) ≡ c.args.self.now.rows = ap (cell_rows c.args.self.now.ty) (sym c.in-Constant.is) ∙ c.cells.ensures.rows in
    let fit : fits (raw_view c.in-Constant.value) c.args.self.now.ty ≡ true = subst (ArePartsOf c.args.self.now.ty) c.in-Constant.is c.cells.ensures.parts in
    ap (λ b. cond b c.in-Constant.len 0) (sym c.if-is_true.false) ∙ constant_count c.args.self.now c.in-Constant.len c.in-Constant.value c.truth_of.result c.is_true.result c.requires fit rows c.truth_of.ensures c.is_true.ensures
