use Rattle.std.proofs.Common.{◌≡◌, ◌∙◌, ◌<◌, true, ap, sym, subst, map, length, refl, arith}
use Rattle.vx_dtype.specs.declared.Nullability.TheVariants.{NonNullable, Nullable}
use Rattle.vx_dtype.specs.TypeRules.{depth_of, field_names, fields_of, is_bool_ty, is_nullable, no_name_twice, nullability_of, with_nullability}
use Rattle.vx_dtype.specs.StructTypes.{field_types}
use Rattle.vx_dtype.specs.TypeViews.{type_view}
use Rattle.vx_dtype.specs.Types.{int_ty, struct_ty}
use Rattle.vx_words.specs.Truths.{vals_of}
use Rattle.vx_numbers.specs.Numbers.{number_list}
use Rattle.vx_column.specs.Columns.{Column, column, values_fit, raws_fit, masked, zip_rows}
use Rattle.vx_column.specs.Splits.{field_columns, row_parts}
use Rattle.vx_dtype.specs.RawViews.{raw_view}
use Rattle.vx_column.specs.RawParts.{raw_number, raw_truth}
use Rattle.vx_column.specs.Cells.{AreFieldsOf, masks_apart, structs_of}
use Rattle.vx_column.specs.ColumnParts.{AreTruthsOf}
use Rattle.vx_column.specs.PlainValues.{numbers_vals}
use Rattle.vx_column.proofs.StructLemmas.{if_ok_map}
use Rattle.vx_column.proofs.CellLemmas.{values_fit_nullable}
use Rattle.vx_column.proofs.NumberLemmas.{numbers_are, raw_numbers_fit, raw_numbers_of}
use Rattle.vx_column.proofs.TruthLemmas.{values_are_truths, truths_seen}
use Rattle.std.proofs.lemmas.List.{take_all}
use Rattle.vx_column.proofs.FillerLemmas.{struct_depth}
use Rattle.vx_column.proofs.NullLemmas.{filled_values_fit, whole_names, whole_depth, whole_apart, masked_is}
use Rattle.vx_column.proofs.SplitLemmas.{split_column, whole_struct, names_below, part_number, value_fits_at, types_number, type_at, parts_fit_at, names_at, depth_at, column_more, length-field_columns}
use Rattle.vx_column.proofs.splits.+splits.Goals as goal

pub column_of-of_truths-requires : goal.column_of-of_truths-requires
column_of-of_truths-requires t c =
    let kind : is_bool_ty (type_view c.args.dtype) ≡ true = ap (λ d. is_bool_ty (type_view d)) c.in-Bool.is in
    subst (AreTruthsOf (type_view c.args.dtype)) (sym (c.in_ok-truths-in-Bool.ensures ∙ ap (map (λ x. raw_truth (raw_view x))) c.as_slice.ensures.value)) (values_are_truths (type_view c.args.dtype) c.args.rows.items kind c.requires.fit)

pub column_of-returns-in_ok-truths-in-Bool : goal.column_of-returns-in_ok-truths-in-Bool
column_of-returns-in_ok-truths-in-Bool t c =
    let kind : is_bool_ty (type_view c.args.dtype) ≡ true = ap (λ d. is_bool_ty (type_view d)) c.in-Bool.is in
    let rows = ap vals_of (c.in_ok-truths-in-Bool.ensures ∙ ap (map (λ x. raw_truth (raw_view x))) c.as_slice.ensures.value) ∙ truths_seen (type_view c.args.dtype) c.args.rows.items kind c.requires.fit in
    if_ok_map _ _ c.of_truths.result (λ (x : Column) (h : x ≡ column (type_view c.args.dtype) (vals_of c.in_ok-truths-in-Bool.truths)). h ∙ ap (column (type_view c.args.dtype)) rows) c.of_truths.ensures

pub column_of-numbers_of_values-requires : goal.column_of-numbers_of_values-requires
column_of-numbers_of_values-requires t c =
    let type : type_view c.args.dtype ≡ int_ty c.in-Primitive.ptype c.in-Primitive.field-1 = ap type_view c.in-Primitive.is in
    let fit : values_fit (int_ty c.in-Primitive.ptype c.in-Primitive.field-1) c.args.rows.items ≡ true = ap (λ t. values_fit t c.args.rows.items) (sym type) ∙ c.requires.fit in
    ap (values_fit (int_ty c.in-Primitive.ptype Nullable)) c.as_slice-in-Primitive.ensures.value ∙ values_fit_nullable (int_ty c.in-Primitive.ptype c.in-Primitive.field-1) c.args.rows.items fit

pub column_of-of_numbers-requires : goal.column_of-of_numbers-requires
column_of-of_numbers-requires t c =
    let type : type_view c.args.dtype ≡ int_ty c.in-Primitive.ptype c.in-Primitive.field-1 = ap type_view c.in-Primitive.is in
    let fit : values_fit (int_ty c.in-Primitive.ptype c.in-Primitive.field-1) c.args.rows.items ≡ true = ap (λ t. values_fit t c.args.rows.items) (sym type) ∙ c.requires.fit in
    let made = c.in_ok-numbers-in-Primitive.ensures ∙ ap (λ xs. number_list c.in-Primitive.ptype (map (λ x. raw_number (raw_view x)) xs)) c.as_slice-in-Primitive.ensures.value in
    numbers_are (int_ty c.in-Primitive.ptype c.in-Primitive.field-1) c.in-Primitive.ptype c.in-Primitive.field-1 _ c.in_ok-numbers-in-Primitive.numbers refl made (raw_numbers_fit c.in-Primitive.ptype c.in-Primitive.field-1 c.args.rows.items fit)

pub column_of-returns-in_ok-numbers-in-Primitive : goal.column_of-returns-in_ok-numbers-in-Primitive
column_of-returns-in_ok-numbers-in-Primitive t c =
    let type : type_view c.args.dtype ≡ int_ty c.in-Primitive.ptype c.in-Primitive.field-1 = ap type_view c.in-Primitive.is in
    let made = c.in_ok-numbers-in-Primitive.ensures ∙ ap (λ xs. number_list c.in-Primitive.ptype (map (λ x. raw_number (raw_view x)) xs)) c.as_slice-in-Primitive.ensures.value in
    let rows = raw_numbers_of (type_view c.args.dtype) c.in-Primitive.ptype c.in-Primitive.field-1 c.args.rows.items c.in_ok-numbers-in-Primitive.numbers type made c.requires.fit in
    if_ok_map _ _ c.of_numbers.result (λ (x : Column) (h : x ≡ column (int_ty c.in-Primitive.ptype c.in-Primitive.field-1) (numbers_vals c.in_ok-numbers-in-Primitive.numbers)). h ∙ (λ j. column (sym type j) (rows j))) c.of_numbers.ensures

-- ---- nulls beside the rest
pub column_apart-whole_column-requires-2 : goal.column_apart-whole_column-requires-2
column_apart-whole_column-requires-2 t c =
    let own = type_view c.args.dtype in
    let whole = c.in_ok-whole.ensures in
    let put = c.in_ok-filled.ensures in
    let xs = c.args.rows.items in
    let ys = c.in_ok-filled.field-0.items in
    let w = type_view c.in_ok-whole.whole in (
      omega (arith, whole_depth own w c.in_ok-filler.filler xs ys whole put, c.decreases),
      (
        filled_values_fit own w c.in_ok-filler.filler xs ys whole put c.requires.fit c.in_ok-filler.ensures,
        (
          whole_names own w c.in_ok-filler.filler xs ys whole put c.requires.names,
          ap masks_apart whole ∙ whole_apart own c.requires.no_truths c.requires.no_numbers,
        ),
      ),
    )

pub column_apart-returns : goal.column_apart-returns
column_apart-returns t c =
    let own = type_view c.args.dtype in
    let nullable : is_nullable (nullability_of own) ≡ true = sym c.is_nullable.ensures ∙ c.if-not-is_nullable.false in
    let nulls = c.in_ok-new.ensures.ok ∙ c.in_ok-nulls.ensures ∙ ap (map _) c.as_slice.ensures.value in
    let is = masked_is own (type_view c.in_ok-whole.whole) c.in_ok-filler.filler c.args.rows.items c.in_ok-filled.field-0.items c.in_ok-whole.ensures c.in_ok-filled.ensures c.in_ok-inner.inner c.in_ok-new.field-0.value c.in_ok-inner.ensures nulls nullable in
    if_ok_map _ _ c.of_masked-2.result
    (λ (x : Column) (h : x ≡ column (with_nullability c.in_ok-inner.inner.ty Nullable) (zip_rows masked c.in_ok-inner.inner.rows (vals_of c.in_ok-new.field-0.value))). h ∙ is)
    c.of_masked-2.ensures

-- ---- structs as columns
pub whole_column-field_columns-requires : goal.whole_column-field_columns-requires
whole_column-field_columns-requires t c =
    let fs = c.in-Struct.fields in
    let shape : type_view c.args.dtype ≡ struct_ty fs c.in-Struct.field-1 = ap type_view c.in-Struct.is in
    let whole = whole_struct _ fs c.in-Struct.field-1 shape c.requires.apart in (
      omega (arith, struct_depth _ fs c.in-Struct.field-1 shape, c.decreases),
      (
        (λ j. values_fit (sym whole j) (c.as_slice.ensures.value j)) ∙ c.requires.fit,
        names_below _ fs whole c.requires.names,
      ),
    )

pub whole_column-of_fields-requires-clause-fields : goal.whole_column-of_fields-requires-clause-fields
whole_column-of_fields-requires-clause-fields t c =
    let fs = c.in-Struct.fields in
    let shape : type_view c.args.dtype ≡ struct_ty fs c.in-Struct.field-1 = ap type_view c.in-Struct.is in
    let whole = whole_struct _ fs c.in-Struct.field-1 shape c.requires.apart in
    let columns = c.in_ok-columns.ensures ∙ ap (λ xs. field_columns fs (row_parts xs)) c.as_slice.ensures.value in
    let number : c.len-len.result ≡ length c.args.rows.items = omega (arith, c.len-len.ensures, c.as_slice.ensures.len, ap length c.as_slice.ensures.value) in
    subst (AreFieldsOf (type_view c.args.dtype) c.in_ok-columns.columns.items) (sym number)
    (split_column _ fs c.args.rows.items c.in_ok-columns.columns.items whole c.requires.fit columns).0

pub whole_column-returns-in-Struct : goal.whole_column-returns-in-Struct
whole_column-returns-in-Struct t c =
    let fs = c.in-Struct.fields in
    let shape : type_view c.args.dtype ≡ struct_ty fs c.in-Struct.field-1 = ap type_view c.in-Struct.is in
    let whole = whole_struct _ fs c.in-Struct.field-1 shape c.requires.apart in
    let columns = c.in_ok-columns.ensures ∙ ap (λ xs. field_columns fs (row_parts xs)) c.as_slice.ensures.value in
    let names = field_names (fields_of (type_view c.args.dtype)) in
    let number : c.len-len.result ≡ length c.args.rows.items = omega (arith, c.len-len.ensures, c.as_slice.ensures.len, ap length c.as_slice.ensures.value) in
    let rows = ap (structs_of names c.in_ok-columns.columns.items) number
    ∙ (split_column _ fs c.args.rows.items c.in_ok-columns.columns.items whole c.requires.fit columns).1 in
    if_ok_map _ _ c.of_fields.result
    (λ (x : Column) (h : x ≡ column (type_view c.args.dtype) (structs_of names c.in_ok-columns.columns.items c.len-len.result)). h ∙ ap (column (type_view c.args.dtype)) rows)
    c.of_fields.ensures

pub field_columns-field_values-requires : goal.field_columns-field_values-requires
field_columns-field_values-requires t c =
    let fs = c.args.fields.now in
    let number = types_number fs c.dtypes-dtypes.result.now c.dtypes-dtypes.ensures in
    λ k d h. let parts = part_number _ fs (value_fits_at (struct_ty fs NonNullable) c.args.rows.now k d c.requires.fit h) in omega (arith, number, parts, c.fields-test.true)

pub field_columns-column_of-requires : goal.field_columns-column_of-requires
field_columns-column_of-requires t c =
    let fs = c.args.fields.now in
    let i = c.fields.i in
    let u = type_view c.index-dtypes-i.result in
    let number = types_number fs c.dtypes-dtypes.result.now c.dtypes-dtypes.ensures in
    let within : i < length (field_types fs) = omega (arith, number, c.fields-test.true) in
    let kind = type_at fs c.dtypes-dtypes.result.now i c.index-dtypes-i.result c.in_ok-clone.field-0 c.dtypes-dtypes.ensures c.fields-test.true c.index-dtypes-i.is c.in_ok-clone.ensures.cases in (
      omega (arith, ap depth_of kind, depth_at fs i u within, c.decreases),
      (
        (λ j. raws_fit (kind j) (c.in_ok-values.ensures j)) ∙ parts_fit_at fs c.args.rows.now i u within c.requires.fit,
        ap no_name_twice kind ∙ names_at fs i u within c.requires.names,
      ),
    )

pub field_columns-fields-preserved : goal.field_columns-fields-preserved
field_columns-fields-preserved t c =
    let fs = c.args.fields.now in
    let i = c.fields.i in
    let number = types_number fs c.dtypes-dtypes.result.now c.dtypes-dtypes.ensures in
    let within : i < length (field_types fs) = omega (arith, number, c.fields-test.true) in
    let kind = type_at fs c.dtypes-dtypes.result.now i c.index-dtypes-i.result c.in_ok-clone.field-0 c.dtypes-dtypes.ensures c.fields-test.true c.index-dtypes-i.is c.in_ok-clone.ensures.cases in
    column_more fs (row_parts c.args.rows.now) i (type_view c.in_ok-clone.field-0) (type_view c.index-dtypes-i.result) c.in_ok-values.values.items c.in_ok-column_of.field-0 c.fields.columns.items c.push.new.self.items within kind c.in_ok-values.ensures c.in_ok-column_of.ensures c.in_ok-push.ensures.items c.fields.invariant

pub field_columns-returns : goal.field_columns-returns
field_columns-returns t c =
    let fs = c.args.fields.now in
    let number = types_number fs c.dtypes-dtypes.result.now c.dtypes-dtypes.ensures in
    c.fields.invariant ∙ take_all c.fields.i (field_columns fs (row_parts c.args.rows.now)) (omega (arith, number, length-field_columns fs (row_parts c.args.rows.now), c.fields-test.false))
