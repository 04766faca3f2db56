use Rattle.std.proofs.Common.{◌≡◌, sym, ap, ◌∙◌, Some, false, map}
use Rattle.std.proofs.lemmas.Result.{err_from_is_err_and}
use Rattle.vx_dtype.specs.TypeRules.{is_nullable, nullability_of}
use Rattle.vx_dtype.specs.StructTypes.{struct_fields}
use Rattle.vx_semantics.specs.Meaning.{select3}
use Rattle.vx_eval.proofs.SelectionLemmas.{struct_so, names_refused, selects, selects_not}
use Rattle.vx_eval.proofs.column_selections.select_column.Goals as goal

pub returns-in_err-names : goal.returns-in_err-names
returns-in_err-names c =
    let col = c.args.column.now in
    let fs = c.in-Some.fields.now in
    let shown = c.dtype-dtype.ensures.shown in
    let known : struct_fields col.ty ≡ Some fs = ap struct_fields (sym shown) ∙ sym c.in-Some.ensures in
    let whole : is_nullable (nullability_of col.ty) ≡ false = ap (λ t. is_nullable (nullability_of t)) (sym shown) ∙ sym c.is_nullable.ensures ∙ c.if-is_nullable.false in
    let p = err_from_is_err_and c.from_residual.result c.from_residual.ensures.1 in
    rw (p.1, p.2) (names_refused c.args.selection.now col.ty fs (map (select3 c.args.selection.now) col.rows) c.in_err-names.field-0.0 (struct_so col.ty fs known whole) c.in_err-names.ensures)

pub returns-in_err-project : goal.returns-in_err-project
returns-in_err-project c =
    let col = c.args.column.now in
    let fs = c.in-Some.fields.now in
    let shown = c.dtype-dtype.ensures.shown in
    let known : struct_fields col.ty ≡ Some fs = ap struct_fields (sym shown) ∙ sym c.in-Some.ensures in
    let whole : is_nullable (nullability_of col.ty) ≡ false = ap (λ t. is_nullable (nullability_of t)) (sym shown) ∙ sym c.is_nullable.ensures ∙ c.if-is_nullable.false in
    let p = err_from_is_err_and c.from_residual-in_err-project.result c.from_residual-in_err-project.ensures.1 in
    rw (p.1, p.2) (selects_not c.args.selection.now fs c.as_slice.result.now col (struct_so col.ty fs known whole) (c.in_ok-names.ensures ∙ ap Some (sym c.as_slice.ensures)) c.dtype-dtype.ensures.names c.dtype-dtype.ensures.fit c.in_err-project.field-0.0 c.in_err-project.ensures)

pub returns : goal.returns
returns c =
    let col = c.args.column.now in
    let fs = c.in-Some.fields.now in
    let shown = c.dtype-dtype.ensures.shown in
    let known : struct_fields col.ty ≡ Some fs = ap struct_fields (sym shown) ∙ sym c.in-Some.ensures in
    let whole : is_nullable (nullability_of col.ty) ≡ false = ap (λ t. is_nullable (nullability_of t)) (sym shown) ∙ sym c.is_nullable.ensures ∙ c.if-is_nullable.false in
    selects c.args.selection.now fs c.as_slice.result.now col (struct_so col.ty fs known whole) (c.in_ok-names.ensures ∙ ap Some (sym c.as_slice.ensures)) c.dtype-dtype.ensures.names c.dtype-dtype.ensures.fit c.in_ok-project.field-0 c.in_ok-project.ensures
