use Rattle.std.proofs.Common.{◌≡◌, ◌++◌, sym, ◌∙◌, subst}
use Rattle.std.specs.Prelude.{OnOk, IfErr}
use Rattle.vx_dtype.specs.Types.{Ty}
use Rattle.vx_dtype.specs.TypeViews.{type_view}
use Rattle.vx_dtype.specs.RawViews.{raw_view}
use Rattle.vx_dtype.specs.Values.{Raw}
use Rattle.vx_column.specs.Columns.{row_at}
use Rattle.vx_wire_bytes.specs.Fields.{IsShort, IsText}
use Rattle.vx_wire_bytes.specs.ValueForms.{value_bytes, TextsAre}
use Rattle.vx_laws_file.specs.Cells.{raw_value}
use Rattle.vx_file_bytes.specs.WritingParts.{IsTooLong}
use Rattle.vx_file_bytes.proofs.WritingLemmas.{cell_raw}
use Rattle.vx_file_bytes.proofs.columns_writing.write_cell.Goals as goal

pub returns-clause-ok : goal.returns-clause-ok
returns-clause-ok c =
    let raw : raw_view c.value.result.now ≡ raw_value (row_at c.args.column.now c.args.i) =
    c.value.ensures.held ∙ sym (cell_raw c.in_ok-cell.cell (row_at c.args.column.now c.args.i) c.in_ok-cell.ensures.value c.value.ensures.within) in
    let type : type_view c.dtype.result.now ≡ c.args.column.now.ty = c.dtype.ensures ∙ c.in_ok-cell.ensures.dtype in
    subst (λ (t : Ty). OnOk c.write_short_value.result ((c.write_short_value.new.out.items ≡ c.args.out.now.items ++ value_bytes t (raw_value (row_at c.args.column.now c.args.i))) × TextsAre IsText (raw_value (row_at c.args.column.now c.args.i)))) type
    (subst (λ (x : Raw). OnOk c.write_short_value.result ((c.write_short_value.new.out.items ≡ c.args.out.now.items ++ value_bytes (type_view c.dtype.result.now) x) × TextsAre IsText x)) raw c.write_short_value.ensures.ok)

pub returns-clause-err : goal.returns-clause-err
returns-clause-err c =
    let raw : raw_view c.value.result.now ≡ raw_value (row_at c.args.column.now c.args.i) =
    c.value.ensures.held ∙ sym (cell_raw c.in_ok-cell.cell (row_at c.args.column.now c.args.i) c.in_ok-cell.ensures.value c.value.ensures.within) in
    subst (λ (x : Raw). IfErr c.write_short_value.result (IsTooLong (TextsAre IsShort x))) raw c.write_short_value.ensures.err
