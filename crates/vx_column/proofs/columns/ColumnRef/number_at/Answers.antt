use Rattle.std.proofs.Common.{◌≡◌, true, ap, sym, ◌∙◌, subst, get_or, None}
use Rattle.std.proofs.Math.ListN.{replicate}
use Rattle.vx_dtype.specs.Fits.{fits}
use Rattle.vx_dtype.specs.RawViews.{raw_view}
use Rattle.vx_numbers.specs.Numbers.{NumberList}
use Rattle.vx_column.specs.Columns.{seen}
use Rattle.vx_column.specs.Cells.{cell_rows, ArePartsOf}
use Rattle.vx_column.specs.ColumnParts.{AreNumbersOf}
use Rattle.vx_column.specs.PlainValues.{number_val, numbers_vals}
use Rattle.vx_column.proofs.CellLemmas.{constant_row}
use Rattle.vx_column.proofs.NumberLemmas.{number_row, same_int_ty}
use Rattle.vx_column.proofs.columns.ColumnRef.number_at.Goals as goal

pub returns-in-Constant : goal.returns-in-Constant
returns-in-Constant c p n e =
    let rows : replicate c.in-Constant.len (seen c.args.self.now.ty c.in-Constant.value) ≡ c.args.self.now.rows = ap (cell_rows c.args.self.now.ty) (sym c.in-Constant.is) ∙ c.cells.ensures.rows in
    let fit : fits (raw_view c.in-Constant.value) c.args.self.now.ty ≡ true = subst (ArePartsOf c.args.self.now.ty) c.in-Constant.is c.cells.ensures.parts in
    sym (c.number_of.ensures.value p n (ap (fits (raw_view c.in-Constant.value)) (sym e) ∙ fit)) ∙ ap (λ t. seen t c.in-Constant.value) (sym e) ∙ constant_row c.args.self.now _ _ _ rows c.requires.row

pub returns-in-Numbers : goal.returns-in-Numbers
returns-in-Numbers c p n e =
    let rows : numbers_vals c.in-Numbers.numbers.value ≡ c.args.self.now.rows = ap (cell_rows c.args.self.now.ty) (sym c.in-Numbers.is) ∙ c.cells.ensures.rows in
    let parts : AreNumbersOf c.args.self.now.ty c.in-Numbers.numbers.value = subst (ArePartsOf c.args.self.now.ty) c.in-Numbers.is c.cells.ensures.parts in
    let read = c.number_at.ensures ∙ ap (λ (ns : NumberList). get_or ns.numbers c.args.i None) c.numbers_in.ensures in
    let one = same_int_ty p c.in-Numbers.numbers.value.ptype n _ (sym e ∙ parts.kind) in
    ap (λ q. number_val q c.number_at.result) one ∙ number_row c.args.self.now c.in-Numbers.numbers.value c.args.i c.number_at.result rows read
