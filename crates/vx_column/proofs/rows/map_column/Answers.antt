use Rattle.std.proofs.Common.{◌≡◌, true, ap, sym, ◌∙◌, subst}
use Rattle.std.proofs.Math.ListN.{replicate}
use Rattle.vx_dtype.specs.Fits.{fits}
use Rattle.vx_dtype.specs.RawViews.{raw_view}
use Rattle.vx_column.specs.Columns.{Column, seen}
use Rattle.vx_column.specs.Cells.{cell_rows, ArePartsOf}
use Rattle.vx_column.proofs.RowLemmas.{map_constant}
use Rattle.vx_column.proofs.rows.map_column.Goals as goal

pub at-requires : goal.at-requires
at-requires g c =
    let fit : fits (raw_view c.in-Constant.value) c.args.column.now.ty ≡ true = subst (ArePartsOf c.args.column.now.ty) c.in-Constant.is c.cells.ensures.parts in
    rw (← c.requires.taken) fit

pub of_constant-requires-clause-fit : goal.of_constant-requires-clause-fit
of_constant-requires-clause-fit g c = rw c.requires.made c.in_ok-at-in-Constant.ensures.fit

pub returns-in_ok-at-in-Constant-clause-rows : goal.returns-in_ok-at-in-Constant-clause-rows
returns-in_ok-at-in-Constant-clause-rows g c =
    let rows : replicate c.in-Constant.len (seen c.args.column.now.ty c.in-Constant.value) ≡ c.args.column.now.rows = ap (cell_rows c.args.column.now.ty) (sym c.in-Constant.is) ∙ c.cells.ensures.rows in
    ap (λ (r : Column). r.rows) c.of_constant.ensures ∙ map_constant (g.R.RowRule.rule c.args.rule.now) _ _ _ c.args.column.now c.in-Constant.len c.in-Constant.value c.in_ok-at-in-Constant.field-0 c.requires.taken c.requires.made rows c.in_ok-at-in-Constant.ensures.value
