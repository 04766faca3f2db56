use Rattle.std.proofs.Common.{◌≡◌, ap, sym, ◌∙◌}
use Rattle.std.proofs.Math.ListN.{replicate}
use Rattle.vx_dtype.specs.declared.Nullability.TheVariants.{NonNullable, Nullable}
use Rattle.vx_dtype.specs.TypeRules.{no_name_twice, with_nullability}
use Rattle.vx_dtype.specs.TypeViews.{type_view}
use Rattle.vx_dtype.specs.Fits.{fits}
use Rattle.vx_dtype.specs.RawViews.{raw_view}
use Rattle.vx_words.specs.Truths.{vals_of}
use Rattle.vx_column.specs.Columns.{Column, column, masked, zip_rows}
use Rattle.vx_column.proofs.FitLemmas.{names_with_nullability}
use Rattle.vx_column.proofs.StructLemmas.{if_ok_map}
use Rattle.vx_column.proofs.NullLemmas.{constant_masked, fits_whole, null_masked, null_seen}
use Rattle.vx_column.proofs.masks.masked_constant.Goals as goal

pub returns-then-is_null_value : goal.returns-then-is_null_value
returns-then-is_null_value c =
    let t = type_view c.args.dtype.now in
    let null = null_seen (raw_view c.args.value.now) t (sym c.is_null_value.ensures ∙ c.if-is_null_value.true) in
    c.of_constant.ensures
    ∙ (λ j. column (c.in_ok-clone.ensures.cases j) (replicate c.args.len (c.null.ensures.value (type_view c.in_ok-clone.field-0) j)))
    ∙ ap (column t) (sym (ap (λ v. zip_rows masked (replicate c.args.len v) (vals_of c.args.nulls.value)) null ∙ null_masked c.args.len c.args.nulls.value c.requires.lengths))

pub of_constant-constant-requires-clause-fit : goal.of_constant-constant-requires-clause-fit
of_constant-constant-requires-clause-fit c =
    let known = sym c.is_null_value.ensures ∙ c.if-is_null_value.false in
    (λ j. fits (c.in_ok-clone-2.ensures.cases j) (c.in_ok-whole.ensures j)) ∙ fits_whole (raw_view c.args.value.now) (type_view c.args.dtype.now) c.requires.fit known

pub of_constant-constant-requires-clause-names : goal.of_constant-constant-requires-clause-names
of_constant-constant-requires-clause-names c =
    ap no_name_twice c.in_ok-whole.ensures ∙ names_with_nullability (type_view c.args.dtype.now) NonNullable ∙ c.requires.names

pub returns : goal.returns
returns c =
    let is = constant_masked (type_view c.args.dtype.now) (type_view c.in_ok-whole.whole) c.args.value.now c.in_ok-clone-2.field-0 c.of_constant-constant.result c.args.len c.args.nulls.value c.in_ok-whole.ensures c.requires.nullable c.in_ok-clone-2.ensures.cases c.of_constant-constant.ensures in
    if_ok_map _ _ c.of_masked.result
    (λ (x : Column) (h : x ≡ column (with_nullability c.of_constant-constant.result.ty Nullable) (zip_rows masked c.of_constant-constant.result.rows (vals_of c.args.nulls.value))). h ∙ is)
    c.of_masked.ensures
