use Rattle.std.proofs.Common.{◌≡◌, true, ap, sym, ◌∙◌, subst}
use Rattle.std.proofs.Math.ListN.{replicate}
use Rattle.vx_dtype.specs.Fits.{fits}
use Rattle.vx_dtype.specs.RawViews.{raw_view}
use Rattle.vx_numbers.specs.Numbers.{NumberList}
use Rattle.vx_column.specs.Columns.{seen}
use Rattle.vx_column.specs.Cells.{cell_rows, ArePartsOf}
use Rattle.vx_column.specs.ColumnParts.{AreNumbersOf}
use Rattle.vx_column.specs.PlainValues.{numbers_vals}
use Rattle.vx_column.proofs.NumberLemmas.{in_range_fit, repeated_numbers, repeated_numbers_fit}
use Rattle.vx_column.proofs.numbers.numbers_of.Goals as goal

pub repeated-requires : goal.repeated-requires
repeated-requires c =
    let fit : fits (raw_view c.in-Constant.value) c.args.column.now.ty ≡ true = subst (ArePartsOf c.args.column.now.ty) c.in-Constant.is c.cells.ensures.parts in
    let type = sym c.dtype.ensures.shown ∙ c.ptype_of.ensures in
    in_range_fit c.ptype_of.result _ c.number_of-number.result (c.number_of-number.ensures.fit c.ptype_of.result _ (ap (fits (raw_view c.in-Constant.value)) (sym type) ∙ fit))

pub returns-in_ok-new-in-Constant-clause-rows : goal.returns-in_ok-new-in-Constant-clause-rows
returns-in_ok-new-in-Constant-clause-rows c =
    let rows : replicate c.in-Constant.len (seen c.args.column.now.ty c.in-Constant.value) ≡ c.args.column.now.rows = ap (cell_rows c.args.column.now.ty) (sym c.in-Constant.is) ∙ c.cells.ensures.rows in
    let fit : fits (raw_view c.in-Constant.value) c.args.column.now.ty ≡ true = subst (ArePartsOf c.args.column.now.ty) c.in-Constant.is c.cells.ensures.parts in
    let type = sym c.dtype.ensures.shown ∙ c.ptype_of.ensures in
    let value = sym (c.number_of-number.ensures.value c.ptype_of.result _ (ap (fits (raw_view c.in-Constant.value)) (sym type) ∙ fit)) ∙ ap (λ t. seen t c.in-Constant.value) (sym type) in
    ap numbers_vals c.in_ok-new-in-Constant.ensures.ok ∙ repeated_numbers c.ptype_of.result c.in-Constant.len c.number_of-number.result _ _ c.in_ok-numbers-in-Constant.numbers value rows c.in_ok-numbers-in-Constant.ensures

pub returns-in_ok-new-in-Constant-clause-fit : goal.returns-in_ok-new-in-Constant-clause-fit
returns-in_ok-new-in-Constant-clause-fit c =
    let fit : fits (raw_view c.in-Constant.value) c.args.column.now.ty ≡ true = subst (ArePartsOf c.args.column.now.ty) c.in-Constant.is c.cells.ensures.parts in
    let type = sym c.dtype.ensures.shown ∙ c.ptype_of.ensures in
    let own = c.number_of-number.ensures.fit c.ptype_of.result _ (ap (fits (raw_view c.in-Constant.value)) (sym type) ∙ fit) in
    subst (λ (ns : NumberList). AreNumbersOf c.args.column.now.ty ns) (sym c.in_ok-new-in-Constant.ensures.ok) (repeated_numbers_fit c.args.column.now.ty c.ptype_of.result _ c.in-Constant.len c.number_of-number.result c.in_ok-numbers-in-Constant.numbers type own c.in_ok-numbers-in-Constant.ensures)
