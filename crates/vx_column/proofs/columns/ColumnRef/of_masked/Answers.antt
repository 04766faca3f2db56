use Rattle.std.proofs.Common.{◌≡◌, ap, ◌∙◌}
use Rattle.vx_dtype.specs.declared.Nullability.TheVariants.{Nullable}
use Rattle.vx_dtype.specs.TypeRules.{no_name_twice, with_nullability}
use Rattle.vx_dtype.specs.TypeViews.{type_view}
use Rattle.vx_column.proofs.FitLemmas.{names_with_nullability}
use Rattle.vx_column.proofs.MaskedLemmas.{are_masked}
use Rattle.vx_column.proofs.columns.ColumnRef.of_masked.Goals as goal

pub invariant_of-result : goal.invariant_of-result
invariant_of-result c =
    let type : type_view c.in_ok-dtype.dtype ≡ with_nullability c.args.inner.ty Nullable = c.in_ok-dtype.ensures ∙ ap (λ t. with_nullability t Nullable) c.dtype.ensures.shown in
    let names = ap no_name_twice type ∙ names_with_nullability c.args.inner.ty Nullable ∙ c.dtype.ensures.names in
    (are_masked (type_view c.in_ok-dtype.dtype) c.args.inner c.in_ok-column.column.value c.args.nulls.value type c.in_ok-column.ensures.ok c.requires.apart c.requires.lengths c.dtype.ensures.fit, names)
