use Rattle.std.proofs.Common.{◌≡◌, true, rules, refl, ap, ◌∙◌, sym, length, arith, subst, List, None, Some, Ok, option_map}
use Rattle.std.specs.List.{All}
use Rattle.std.specs.Option.{option_copied}
use Rattle.vx_words.specs.Truths.{vals_of}
use Rattle.vx_column.specs.Columns.{Column, column, masked, zip_rows}
use Rattle.vx_dtype.specs.declared.Nullability.TheVariants.{NonNullable, Nullable}
use Rattle.vx_dtype.specs.TypeRules.{distinct_names, no_name_twice, with_nullability}
use Rattle.vx_dtype.specs.Types.{struct_ty}
use Rattle.vx_dtype.specs.Zipped.{zipped}
use Rattle.vx_column.specs.StructColumns.{column_types, all_have_rows, lengths_agree, truths_number}
use Rattle.vx_column.specs.Cells.{all_rows_fit}
use Rattle.vx_column.proofs.StructLemmas.{names_made}
use Rattle.vx_column.proofs.ColumnFields.{made_fields, made_answer}
use Rattle.vx_column.proofs.MaskedParts.{agreed, made_masked, nulls_by}
use Rattle.vx_column.proofs.columns.ColumnRef.struct_.Goals as goal

pub of_fields-requires-clause-names : goal.of_fields-requires-clause-names
of_fields-requires-clause-names c =
    let lengths : length c.args.names ≡ length c.args.fields.items = omega (arith, c.if-len.false, c.len.ensures, c.len-2.ensures) in
    let distinct : distinct_names c.args.names ≡ true = search rules in
    let same = c.as_slice-2.ensures.value in
    let made : c.in_ok-fields_type.fields_type ≡ zipped c.args.names (column_types c.args.fields.items) = c.in_ok-fields_type.ensures ∙ ap (zipped c.args.names) c.in_ok-dtypes.ensures.types ∙ ap (λ cs. zipped c.args.names (column_types cs)) same in
    ap (λ fs. no_name_twice (struct_ty fs NonNullable)) made ∙ names_made c.args.names c.args.fields.items NonNullable lengths distinct (subst (λ (cs : List Column). All (λ f. no_name_twice f.ty ≡ true) cs) same c.in_ok-dtypes.ensures.names)

pub of_fields-requires-clause-fields : goal.of_fields-requires-clause-fields
of_fields-requires-clause-fields c =
    let lengths : length c.args.names ≡ length c.args.fields.items = omega (arith, c.if-len.false, c.len.ensures, c.len-2.ensures) in
    let same = c.as_slice-2.ensures.value in
    let made : c.in_ok-fields_type.fields_type ≡ zipped c.args.names (column_types c.args.fields.items) = c.in_ok-fields_type.ensures ∙ ap (zipped c.args.names) c.in_ok-dtypes.ensures.types ∙ ap (λ cs. zipped c.args.names (column_types cs)) same in
    let rows : all_have_rows c.args.len c.args.fields.items ≡ true = search rules in
    let fit : all_rows_fit c.args.fields.items ≡ true = subst (λ (cs : List Column). all_rows_fit cs ≡ true) same c.in_ok-dtypes.ensures.fit in
    made_fields c.args.names c.args.fields.items c.args.len _ (ap (λ fs. struct_ty fs NonNullable) made) lengths rows fit

pub returns-in-None : goal.returns-in-None
returns-in-None c =
    let lengths : length c.args.names ≡ length c.args.fields.items = omega (arith, c.if-len.false, c.len.ensures, c.len-2.ensures) in
    let same = c.as_slice-2.ensures.value in
    let made : c.in_ok-fields_type.fields_type ≡ zipped c.args.names (column_types c.args.fields.items) = c.in_ok-fields_type.ensures ∙ ap (zipped c.args.names) c.in_ok-dtypes.ensures.types ∙ ap (λ cs. zipped c.args.names (column_types cs)) same in
    let distinct : distinct_names c.args.names ≡ true = search rules in
    let agree : lengths_agree c.args.names c.args.fields.items c.args.len (option_map (λ v. v.items) c.args.valid) ≡ true = search rules in
    let valid : option_map (λ v. v.items) c.args.valid ≡ None = sym c.slice_of-truths.ensures ∙ ap option_copied c.in-None.is in
    rw (agree, distinct) (ap (λ (d : Column). Ok d) (c.in_ok-structs.ensures ∙ made_answer c.args.names c.args.fields.items c.args.len _ _ (ap (λ fs. struct_ty fs NonNullable) made) lengths valid))

pub of_masked-requires-clause-lengths : goal.of_masked-requires-clause-lengths
of_masked-requires-clause-lengths c =
    let lengths : length c.args.names ≡ length c.args.fields.items = omega (arith, c.if-len.false, c.len.ensures, c.len-2.ensures) in
    let same = c.as_slice-2.ensures.value in
    let made : c.in_ok-fields_type.fields_type ≡ zipped c.args.names (column_types c.args.fields.items) = c.in_ok-fields_type.ensures ∙ ap (zipped c.args.names) c.in_ok-dtypes.ensures.types ∙ ap (λ cs. zipped c.args.names (column_types cs)) same in
    let valid : option_map (λ v. v.items) c.args.valid ≡ Some c.in-Some.valid.now = sym c.slice_of-truths.ensures ∙ ap option_copied c.in-Some.is in
    let number : truths_number c.args.len (option_map (λ v. v.items) c.args.valid) ≡ true = search rules in
    let nulls : c.in_ok-new-in-Some.field-0.value ≡ nulls_by c.in-Some.valid.now = c.in_ok-new-in-Some.ensures.ok ∙ c.in_ok-nulls-in-Some.ensures in
    let structs = c.in_ok-structs.ensures ∙ made_answer c.args.names c.args.fields.items c.args.len _ None (ap (λ fs. struct_ty fs NonNullable) made) lengths refl in
    let told = made_masked c.args.names c.args.fields.items c.args.len _ c.in-Some.valid.now c.in_ok-structs.structs c.in_ok-new-in-Some.field-0.value valid number nulls structs in
    told.lengths ∙ ap (λ (d : Column). length d.rows) (sym c.structs.view_is)

pub returns : goal.returns
returns c =
    let lengths : length c.args.names ≡ length c.args.fields.items = omega (arith, c.if-len.false, c.len.ensures, c.len-2.ensures) in
    let same = c.as_slice-2.ensures.value in
    let made : c.in_ok-fields_type.fields_type ≡ zipped c.args.names (column_types c.args.fields.items) = c.in_ok-fields_type.ensures ∙ ap (zipped c.args.names) c.in_ok-dtypes.ensures.types ∙ ap (λ cs. zipped c.args.names (column_types cs)) same in
    let distinct : distinct_names c.args.names ≡ true = search rules in
    let valid : option_map (λ v. v.items) c.args.valid ≡ Some c.in-Some.valid.now = sym c.slice_of-truths.ensures ∙ ap option_copied c.in-Some.is in
    let number : truths_number c.args.len (option_map (λ v. v.items) c.args.valid) ≡ true = search rules in
    let rows : all_have_rows c.args.len c.args.fields.items ≡ true = search rules in
    let agree = agreed c.args.names c.args.fields.items c.args.len _ lengths rows number in
    let nulls : c.in_ok-new-in-Some.field-0.value ≡ nulls_by c.in-Some.valid.now = c.in_ok-new-in-Some.ensures.ok ∙ c.in_ok-nulls-in-Some.ensures in
    let structs = c.in_ok-structs.ensures ∙ made_answer c.args.names c.args.fields.items c.args.len _ None (ap (λ fs. struct_ty fs NonNullable) made) lengths refl in
    let told = made_masked c.args.names c.args.fields.items c.args.len _ c.in-Some.valid.now c.in_ok-structs.structs c.in_ok-new-in-Some.field-0.value valid number nulls structs in
    let here = λ (d : Column). column (with_nullability d.ty Nullable) (zip_rows masked d.rows (vals_of c.in_ok-new-in-Some.field-0.value)) in
    rw (agree, distinct) (ap (λ (d : Column). Ok d) (c.in_ok-of_masked-in-Some.ensures ∙ ap here c.structs.view_is ∙ told.answer))
