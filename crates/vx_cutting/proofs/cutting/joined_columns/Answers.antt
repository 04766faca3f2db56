use Rattle.std.proofs.Common.{◌≡◌, ◌<◌, ◌≤◌, ◌+◌, ◌∙◌, sym, ap, Some, [], ◌∷◌, ◌++◌, length, map, drop, arith}
use Rattle.std.specs.List.{slice_get}
use Rattle.std.proofs.lemmas.List.{append_assoc, append-nil}
use Rattle.vx_dtype.specs.declared.Nullability.TheVariants.{NonNullable}
use Rattle.vx_dtype.specs.Types.{Fields}
use Rattle.vx_dtype.specs.TypeRules.{field_names}
use Rattle.vx_dtype.specs.TypeViews.{type_view}
use Rattle.vx_dtype.specs.StructTypes.{field_types}
use Rattle.vx_dtype.proofs.FieldsFrom.{has_type_at, length-field_types}
use Rattle.vx_tables.specs.Blocks.{block_view}
use Rattle.vx_cutting.specs.Cutting.{joined_from}
use Rattle.vx_cutting.proofs.BareLemmas.{distinct_in}
use Rattle.vx_cutting.proofs.BlockLemmas.{each_has, names_there, joined_step, joined_past}
use Rattle.vx_cutting.proofs.cutting.joined_columns.Goals as goal

pub unreachable-requires : goal.unreachable-requires
unreachable-requires c =
    let fs = c.columns_of-fields.result.now in
    let within : c.loop-i.i < length (field_names fs) = omega (arith, c.loop-i-test.true, c.nfields-i-end.ensures) in
    has_type_at fs c.loop-i.i within c.in_default.ensures

pub joined_column-requires-clause-columns : goal.joined_column-requires-clause-columns
joined_column-requires-clause-columns c =
    let z = c.args.zones.now in
    let i = c.loop-i.i in
    let ty = type_view c.in-Some.dtype.now in
    let typed : slice_get (field_types z.columns) i ≡ Some ty = ap (λ (gs : Fields). slice_get (field_types gs) i) (sym c.columns_of-fields.ensures.columns) ∙ sym c.in-Some.ensures in
    let same = ap (λ (gs : Fields). length (field_names gs)) c.columns_of-fields.ensures.columns in
    let within : i < length (field_names z.columns) = omega (arith, same, c.loop-i-test.true, c.nfields-i-end.ensures) in
    each_has (field_types z.columns) (length (field_names z.columns)) z.lengths (map block_view c.args.blocks.now) i ty c.requires.lengths c.requires.types typed within

pub joined_column-requires-clause-names : goal.joined_column-requires-clause-names
joined_column-requires-clause-names c =
    let z = c.args.zones.now in
    let i = c.loop-i.i in
    let ty = type_view c.in-Some.dtype.now in
    let typed : slice_get (field_types z.columns) i ≡ Some ty = ap (λ (gs : Fields). slice_get (field_types gs) i) (sym c.columns_of-fields.ensures.columns) ∙ sym c.in-Some.ensures in
    names_there z.columns NonNullable i ty (distinct_in z c.columns_of-fields.ensures.rules) typed

pub loop-i-preserved : goal.loop-i-preserved
loop-i-preserved c =
    let z = c.args.zones.now in
    let i = c.loop-i.i in
    let bs = map block_view c.args.blocks.now in
    let ts = field_types z.columns in
    let ty = type_view c.in-Some.dtype.now in
    let typed : slice_get ts i ≡ Some ty = ap (λ (gs : Fields). slice_get (field_types gs) i) (sym c.columns_of-fields.ensures.columns) ∙ sym c.in-Some.ensures in
    let old = c.loop-i.columns.items in
    let rest = joined_from bs (i + 1) (drop (i + 1) ts) in
    (λ j. c.in_ok-push.ensures.items j ++ rest) ∙ append_assoc old (c.in_ok-joined_column.field-0 ∷ []) rest ∙ (λ j. old ++ c.in_ok-joined_column.ensures j ∷ rest)
    ∙ ap (λ cs. old ++ cs) (sym (joined_step bs i ts ty typed)) ∙ c.loop-i.invariant

pub returns : goal.returns
returns c =
    let z = c.args.zones.now in
    let i = c.loop-i.i in
    let bs = map block_view c.args.blocks.now in
    let same = ap (λ (gs : Fields). length (field_names gs)) c.columns_of-fields.ensures.columns in
    let past : length (field_types z.columns) ≤ i = omega (arith, same, c.loop-i-test.false, c.nfields-i-end.ensures, length-field_types z.columns) in
    sym (append-nil c.loop-i.columns.items) ∙ ap (λ cs. c.loop-i.columns.items ++ cs) (sym (joined_past bs i (field_types z.columns) past)) ∙ c.loop-i.invariant
