use Rattle.std.proofs.Common.{◌≡◌, true, ap, sym, ◌∙◌, subst}
use Rattle.std.proofs.Math.ListN.{replicate}
use Rattle.vx_dtype.specs.TypeRules.{nullability_of}
use Rattle.vx_dtype.specs.Fits.{fits}
use Rattle.vx_dtype.specs.RawViews.{raw_view}
use Rattle.vx_words.specs.Truths.{vals_of}
use Rattle.vx_column.specs.Columns.{seen}
use Rattle.vx_column.specs.Cells.{cell_rows, ArePartsOf}
use Rattle.vx_column.specs.ColumnParts.{truths_fit}
use Rattle.vx_column.proofs.TruthLemmas.{repeated_rows, repeated_fit}
use Rattle.vx_column.proofs.reading.truths_of.Goals as goal

pub returns-in_ok-new-in-Constant-clause-rows : goal.returns-in_ok-new-in-Constant-clause-rows
returns-in_ok-new-in-Constant-clause-rows c =
    let rows : replicate c.in-Constant.len (seen c.args.column.now.ty c.in-Constant.value) ≡ c.args.column.now.rows = ap (cell_rows c.args.column.now.ty) (sym c.in-Constant.is) ∙ c.cells.ensures.rows in
    let fit : fits (raw_view c.in-Constant.value) c.args.column.now.ty ≡ true = subst (ArePartsOf c.args.column.now.ty) c.in-Constant.is c.cells.ensures.parts in
    ap vals_of c.in_ok-new-in-Constant.ensures.ok ∙ repeated_rows c.args.column.now c.in-Constant.len c.in-Constant.value c.truth_of.result c.in_ok-truths-in-Constant.truths c.requires fit rows c.truth_of.ensures c.in_ok-truths-in-Constant.ensures

pub returns-in_ok-new-in-Constant-clause-fit : goal.returns-in_ok-new-in-Constant-clause-fit
returns-in_ok-new-in-Constant-clause-fit c =
    let fit : fits (raw_view c.in-Constant.value) c.args.column.now.ty ≡ true = subst (ArePartsOf c.args.column.now.ty) c.in-Constant.is c.cells.ensures.parts in
    ap (truths_fit (nullability_of c.args.column.now.ty)) c.in_ok-new-in-Constant.ensures.ok ∙ repeated_fit c.args.column.now c.in-Constant.len c.in-Constant.value c.truth_of.result c.in_ok-truths-in-Constant.truths c.requires fit c.truth_of.ensures c.in_ok-truths-in-Constant.ensures
