use Rattle.std.proofs.Common.{◌≡◌, ap, sym, ◌∙◌, subst, true, Ok, filter}
use Rattle.vx_dtype.specs.TypeViews.{type_view}
use Rattle.vx_semantics.specs.Slots.{slots_fit}
use Rattle.vx_semantics.specs.Tables.{row_type}
use Rattle.vx_semantics.specs.Typing.{typed_of}
use Rattle.vx_dtype.specs.TypeRules.{has_name}
use Rattle.vx_prepare.specs.declared.prepared.PreparedExpr.{PreparedExpr}
use Rattle.vx_prepare.proofs.PrepareLemmas.{simplifies, splits, is_prepared}
use Rattle.vx_prepare.proofs.prepared.prepare_over.Goals as goal

pub simplified_over-requires-clause-simplifies : goal.simplified_over-requires-clause-simplifies
simplified_over-requires-clause-simplifies c =
    let typed : typed_of (row_type c.args.fields.now) c.args.expr.now ≡ Ok (type_view c.in_ok-dtype.dtype) =
    subst (λ t. typed_of t c.args.expr.now ≡ Ok (type_view c.in_ok-dtype.dtype)) c.requires.rows c.in_ok-dtype.ensures in
    simplifies c.args.fields.now c.args.expr.now (type_view c.in_ok-dtype.dtype) typed

pub split_over-requires-clause-splits : goal.split_over-requires-clause-splits
split_over-requires-clause-splits c =
    let typed : typed_of (row_type c.args.fields.now) c.args.expr.now ≡ Ok (type_view c.in_ok-dtype.dtype) =
    subst (λ t. typed_of t c.args.expr.now ≡ Ok (type_view c.in_ok-dtype.dtype)) c.requires.rows c.in_ok-dtype.ensures in
    splits c.args.fields.now c.args.expr.now (type_view c.in_ok-dtype.dtype) typed c.in_ok-simplified.simplified c.in_ok-simplified.ensures
    c.in_ok-_number._number c.in_ok-_number.ensures.number c.in_ok-_number.ensures.few

pub returns : goal.returns
returns c =
    let fs = c.args.fields.now in
    let e = c.args.expr.now in
    let u = type_view c.in_ok-dtype.dtype in
    let typed : typed_of (row_type fs) e ≡ Ok u = subst (λ t. typed_of t e ≡ Ok u) c.requires.rows c.in_ok-dtype.ensures in
    let fit : slots_fit c.args.slots.now e ≡ true = sym c.in_ok-fit.ensures ∙ c.if-not-fit.false in
    let p : PreparedExpr = record { dtype = c.in_ok-dtype.dtype; columns = c.in_ok-columns.columns; split = c.in_ok-split.split } in
    let annotations = ap (λ xs. filter (λ name. has_name name xs) c.names.result.now) c.as_slice-annotations.ensures.value in
    let columns = c.in_ok-columns.ensures ∙ annotations ∙ ap (filter (λ name. has_name name c.in_ok-split.split.partition_annotations.items)) c.names.ensures in
    is_prepared fs e u typed c.in_ok-simplified.simplified c.in_ok-simplified.ensures c.in_ok-_number._number c.in_ok-_number.ensures.number c.in_ok-_number.ensures.few
    c.args.slots.now fit p (λ i. type_view c.in_ok-dtype.dtype) c.in_ok-split.ensures columns
