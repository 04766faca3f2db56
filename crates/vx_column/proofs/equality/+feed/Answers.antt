use Rattle.std.proofs.Common.{None, rules, ◌≡◌, ◌<◌, ◌≤◌, true, ap, sym, ◌∙◌, subst, arith, length, get_or, fold}
use Rattle.std.specs.List.{All}
use Rattle.std.proofs.Math.ListN.{replicate}
use Rattle.vx_dtype.specs.TypeRules.{field_names, fields_of}
use Rattle.vx_column.specs.TypeSizes.{size_of}
use Rattle.vx_column.specs.Sizes.{size_masked}
use Rattle.vx_dtype.specs.Fits.{fits}
use Rattle.vx_dtype.specs.RawViews.{raw_view}
use Rattle.vx_column.specs.Columns.{Column, masked, row_at, seen, seen_rows, values_fit, zip_rows}
use Rattle.vx_column.specs.ColumnEqual.{val_feed}
use Rattle.vx_column.specs.Cells.{cell_rows, structs_of, AreFieldsOf, AreMaskedOf, ArePartsOf}
use Rattle.vx_column.specs.ColumnParts.{AreTruthsOf}
use Rattle.vx_column.proofs.StructLemmas.{all_rows_at}
use Rattle.vx_column.proofs.CellLemmas.{deepest, deepest_lt, size_le-deepest, structs_length, constant_row, values_row, values_fit_at}
use Rattle.vx_column.proofs.SameLemmas.{kept_fed, struct_fed, fields_fed_more, fields_fed_all}
use Rattle.vx_words.specs.Truths.{is_true, vals_of}
use Rattle.vx_column.proofs.TruthLemmas.{truth_stands}
use Rattle.vx_numbers.specs.Numbers.{NumberList}
use Rattle.vx_column.specs.ColumnParts.{AreNumbersOf}
use Rattle.vx_column.specs.PlainValues.{numbers_vals}
use Rattle.vx_column.proofs.NumberLemmas.{number_stands}
use Rattle.vx_column.proofs.MaskedLemmas.{masked_length, masked_truths, masked_nullable, masked_null, masked_own}
use Rattle.vx_column.proofs.equality.+feed.Goals as goal

pub feed_at-returns-in-Constant : goal.feed_at-returns-in-Constant
feed_at-returns-in-Constant g t c =
    let rows : replicate c.in-Constant.len (seen c.args.column.now.ty c.in-Constant.value) ≡ c.args.column.now.rows = ap (cell_rows c.args.column.now.ty) (sym c.in-Constant.is) ∙ c.cells.ensures.rows in
    let fit : fits (raw_view c.in-Constant.value) c.args.column.now.ty ≡ true = subst (ArePartsOf c.args.column.now.ty) c.in-Constant.is c.cells.ensures.parts in
    c.hash.ensures ∙ ap (fold g.H.Hasher.write c.args.state.now) (kept_fed c.args.column.now c.args.i c.in-Constant.value fit (constant_row c.args.column.now _ _ _ rows c.requires))

pub feed_at-returns-in-Rows : goal.feed_at-returns-in-Rows
feed_at-returns-in-Rows g t c =
    let rows : seen_rows c.args.column.now.ty c.in-Rows.rows.value.items ≡ c.args.column.now.rows = ap (cell_rows c.args.column.now.ty) (sym c.in-Rows.is) ∙ c.cells.ensures.rows in
    let fit : values_fit c.args.column.now.ty c.in-Rows.rows.value.items ≡ true = (subst (ArePartsOf c.args.column.now.ty) c.in-Rows.is c.cells.ensures.parts).fit in
    let read = c.index-values-i.is ∙ ap (λ xs. get_or xs c.args.i c.index-values-i.result) c.values_in-values.ensures in
    c.hash-in-Rows.ensures ∙ ap (fold g.H.Hasher.write c.args.state.now) (kept_fed c.args.column.now c.args.i c.index-values-i.result (values_fit_at c.args.column.now c.in-Rows.rows.value.items c.args.i _ rows fit c.requires read) (values_row c.args.column.now c.in-Rows.rows.value.items c.args.i _ rows c.requires read))

pub feed_at-feed_fields-requires : goal.feed_at-feed_fields-requires
feed_at-feed_fields-requires g t c κs inside =
    let rows : structs_of (field_names (fields_of c.args.column.now.ty)) c.in-Columns.fields.value.items c.in-Columns.len ≡ c.args.column.now.rows = ap (cell_rows c.args.column.now.ty) (sym c.in-Columns.is) ∙ c.cells.ensures.rows in
    let parts : AreFieldsOf c.args.column.now.ty c.in-Columns.fields.value.items c.in-Columns.len = subst (ArePartsOf c.args.column.now.ty) c.in-Columns.is c.cells.ensures.parts in
    let within : c.args.i < c.in-Columns.len = omega (arith, structs_length c.args.column.now _ _ _ rows, c.requires) in
    let below : deepest c.columns_in.result.now < size_of c.args.column.now.ty = omega (arith, deepest_lt _ _ _ parts, ap deepest c.columns_in.ensures) in
    let row = subst (λ cs. All (λ (d : Column). c.args.i < length d.rows) cs) (sym c.columns_in.ensures) (all_rows_at c.in-Columns.len c.in-Columns.fields.value.items c.args.i parts.lengths within) in
    (omega (arith, below, c.decreases), search (rules, row))

pub feed_at-returns-in-Columns : goal.feed_at-returns-in-Columns
feed_at-returns-in-Columns g t c =
    let rows : structs_of (field_names (fields_of c.args.column.now.ty)) c.in-Columns.fields.value.items c.in-Columns.len ≡ c.args.column.now.rows = ap (cell_rows c.args.column.now.ty) (sym c.in-Columns.is) ∙ c.cells.ensures.rows in
    let parts : AreFieldsOf c.args.column.now.ty c.in-Columns.fields.value.items c.in-Columns.len = subst (ArePartsOf c.args.column.now.ty) c.in-Columns.is c.cells.ensures.parts in
    struct_fed g.H.Hasher.write c.args.state.now c.write_u8.new.self c.feed_fields.new.state c.args.column.now c.args.i c.in-Columns.fields.value.items c.in-Columns.len parts rows c.requires c.write_u8.ensures (rw c.columns_in.ensures at c.feed_fields.ensures)

pub feed_fields-feed_at-requires : goal.feed_fields-feed_at-requires
feed_fields-feed_at-requires g t c κs inside =
    let below : size_of c.index-columns-k.result.ty ≤ deepest c.args.columns.now = omega (arith, size_le-deepest c.args.columns.now c.loop-k.k c.index-columns-k.result c.loop-k-test.true, ap (λ (d : Column). size_of d.ty) c.index-columns-k.is) in
    let row : c.args.i < length c.index-columns-k.result.rows = subst (λ (d : Column). c.args.i < length d.rows) (sym c.index-columns-k.is) (c.requires c.loop-k.k c.index-columns-k.result c.loop-k-test.true) in
    (omega (arith, below, c.decreases), search (rules, row))

pub feed_fields-loop-k-preserved : goal.feed_fields-loop-k-preserved
feed_fields-loop-k-preserved g t c =
    fields_fed_more g.H.Hasher.write c.loop-k.state _ c.write_u8.new.self c.feed_at.new.state c.args.columns.now c.loop-k.k c.args.i c.index-columns-k.result c.loop-k-test.true c.index-columns-k.is c.loop-k.invariant c.write_u8.ensures c.feed_at.ensures

pub feed_fields-returns : goal.feed_fields-returns
feed_fields-returns g t c =
    fields_fed_all g.H.Hasher.write c.loop-k.state _ c.write_u8-2.new.self c.args.columns.now c.loop-k.k c.args.i (omega arith) c.loop-k.invariant c.write_u8-2.ensures

pub feed_at-returns-in-Truths : goal.feed_at-returns-in-Truths
feed_at-returns-in-Truths g t c =
    let rows : vals_of c.in-Truths.truths.value ≡ c.args.column.now.rows = ap (cell_rows c.args.column.now.ty) (sym c.in-Truths.is) ∙ c.cells.ensures.rows in
    let parts : AreTruthsOf c.args.column.now.ty c.in-Truths.truths.value = subst (ArePartsOf c.args.column.now.ty) c.in-Truths.is c.cells.ensures.parts in
    let read = c.truth_at.ensures ∙ ap (λ ts. get_or ts c.args.i None) c.truths_in.ensures in
    let stands = truth_stands c.args.column.now c.in-Truths.truths.value c.args.i c.truth_at.result c.of_truth.result parts rows read c.requires c.of_truth.ensures.value c.of_truth.ensures.fit in
    c.hash-in-Truths.ensures ∙ ap (fold g.H.Hasher.write c.args.state.now) (kept_fed c.args.column.now c.args.i c.of_truth.result stands.0 stands.1)

pub feed_at-returns-in-Numbers : goal.feed_at-returns-in-Numbers
feed_at-returns-in-Numbers g t c =
    let rows : numbers_vals c.in-Numbers.numbers.value ≡ c.args.column.now.rows = ap (cell_rows c.args.column.now.ty) (sym c.in-Numbers.is) ∙ c.cells.ensures.rows in
    let parts : AreNumbersOf c.args.column.now.ty c.in-Numbers.numbers.value = subst (ArePartsOf c.args.column.now.ty) c.in-Numbers.is c.cells.ensures.parts in
    let read = c.number_at.ensures ∙ ap (λ (ns : NumberList). get_or ns.numbers c.args.i None) c.numbers_in.ensures in
    let stands = number_stands c.args.column.now c.in-Numbers.numbers.value c.args.i c.number_at.result c.of_number.result parts rows read c.requires c.of_number.ensures.value c.of_number.ensures.fit in
    c.hash-in-Numbers.ensures ∙ ap (fold g.H.Hasher.write c.args.state.now) (kept_fed c.args.column.now c.args.i c.of_number.result stands.0 stands.1)

pub feed_at-is_hidden-requires : goal.feed_at-is_hidden-requires
feed_at-is_hidden-requires g t c =
    let rows : zip_rows masked c.in-Masked.column.value.rows (vals_of c.in-Masked.nulls.value) ≡ c.args.column.now.rows = ap (cell_rows c.args.column.now.ty) (sym c.in-Masked.is) ∙ c.cells.ensures.rows in
    let parts : AreMaskedOf c.args.column.now.ty c.in-Masked.column.value c.in-Masked.nulls.value = subst (ArePartsOf c.args.column.now.ty) c.in-Masked.is c.cells.ensures.parts in
    omega (arith, masked_truths c.args.column.now c.in-Masked.column.value c.in-Masked.nulls.value parts rows, c.requires)

pub feed_at-returns-then-is_hidden : goal.feed_at-returns-then-is_hidden
feed_at-returns-then-is_hidden g t c =
    let rows : zip_rows masked c.in-Masked.column.value.rows (vals_of c.in-Masked.nulls.value) ≡ c.args.column.now.rows = ap (cell_rows c.args.column.now.ty) (sym c.in-Masked.is) ∙ c.cells.ensures.rows in
    let parts : AreMaskedOf c.args.column.now.ty c.in-Masked.column.value c.in-Masked.nulls.value = subst (ArePartsOf c.args.column.now.ty) c.in-Masked.is c.cells.ensures.parts in
    let told : c.is_hidden.result ≡ is_true (get_or c.in-Masked.nulls.value c.args.i None) = c.is_hidden.ensures in
    let null = masked_null c.args.column.now c.in-Masked.column.value c.in-Masked.nulls.value c.args.i _ parts rows c.requires told c.if-is_hidden.true in
    let fit = c.null.ensures.fit c.args.column.now.ty (masked_nullable c.args.column.now.ty c.in-Masked.column.value c.in-Masked.nulls.value parts) in
    c.hash-then-is_hidden.ensures ∙ ap (fold g.H.Hasher.write c.args.state.now) (kept_fed c.args.column.now c.args.i c.null.result fit (c.null.ensures.value c.args.column.now.ty ∙ sym null))

pub feed_at-feed_at-requires : goal.feed_at-feed_at-requires
feed_at-feed_at-requires g t c κs inside =
    let rows : zip_rows masked c.in-Masked.column.value.rows (vals_of c.in-Masked.nulls.value) ≡ c.args.column.now.rows = ap (cell_rows c.args.column.now.ty) (sym c.in-Masked.is) ∙ c.cells.ensures.rows in
    let parts : AreMaskedOf c.args.column.now.ty c.in-Masked.column.value c.in-Masked.nulls.value = subst (ArePartsOf c.args.column.now.ty) c.in-Masked.is c.cells.ensures.parts in
    let same : c.column_in.result.now ≡ c.in-Masked.column.value = c.column_in.ensures in
    let below : size_of c.column_in.result.now.ty < size_of c.args.column.now.ty = omega (arith, size_masked c.args.column.now.ty c.in-Masked.column.value c.in-Masked.nulls.value parts, ap (λ (d : Column). size_of d.ty) same) in
    let row : c.args.i < length c.column_in.result.now.rows = subst (λ (d : Column). c.args.i < length d.rows) (sym same) (omega (arith, masked_length c.args.column.now c.in-Masked.column.value c.in-Masked.nulls.value parts rows, c.requires)) in
    (omega (arith, below, c.decreases), search (rules, row))

pub feed_at-returns-else-is_hidden : goal.feed_at-returns-else-is_hidden
feed_at-returns-else-is_hidden g t c =
    let rows : zip_rows masked c.in-Masked.column.value.rows (vals_of c.in-Masked.nulls.value) ≡ c.args.column.now.rows = ap (cell_rows c.args.column.now.ty) (sym c.in-Masked.is) ∙ c.cells.ensures.rows in
    let parts : AreMaskedOf c.args.column.now.ty c.in-Masked.column.value c.in-Masked.nulls.value = subst (ArePartsOf c.args.column.now.ty) c.in-Masked.is c.cells.ensures.parts in
    let told : c.is_hidden.result ≡ is_true (get_or c.in-Masked.nulls.value c.args.i None) = c.is_hidden.ensures in
    let own = masked_own c.args.column.now c.in-Masked.column.value c.in-Masked.nulls.value c.args.i _ parts rows c.requires told c.if-is_hidden.false in
    c.feed_at.ensures ∙ ap (λ v. fold g.H.Hasher.write c.args.state.now (val_feed v)) (ap (λ (d : Column). row_at d c.args.i) c.column_in.ensures ∙ sym own)
