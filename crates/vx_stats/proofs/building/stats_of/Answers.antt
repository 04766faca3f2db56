use Rattle.std.proofs.Common.{◌≡◌, ◌+◌, ◌<◌, ◌≤◌, ℕ, suc, ◌∷◌, [], ◌++◌, true, Some, List, length, map, sym, ap, ◌∙◌, subst, arith}
use Rattle.std.specs.List.{slice_get}
use Rattle.vx_dtype.specs.declared.Nullability.TheVariants.{NonNullable}
use Rattle.vx_dtype.specs.TypeRules.{field_names}
use Rattle.vx_dtype.specs.StructTypes.{field_types}
use Rattle.vx_dtype.specs.Types.{Bytes, Fields}
use Rattle.vx_dtype.specs.TypeViews.{type_view}
use Rattle.vx_dtype.specs.Structs.{field_of}
use Rattle.vx_dtype.proofs.FieldsFrom.{fields_from, fields_from-here, fields_from-past, has_type_at}
use Rattle.vx_zones.specs.ZoneViews.{stat_view}
use Rattle.vx_tables.specs.Blocks.{block_view, table_of_blocks}
use Rattle.vx_stats.specs.ColumnFacts.{AreOf, column_rows, column_at}
use Rattle.vx_stats.specs.Walks.{walked_at, walked_below}
use Rattle.vx_stats.proofs.ColumnLemmas.{names-at, names-in}
use Rattle.vx_stats.proofs.TableLemmas.{rows-at, types-at, long-enough, sound}
use Rattle.vx_stats.proofs.WalkLemmas.{walked, one-field-more, nothing-left}
use Rattle.vx_stats.proofs.building.stats_of.Goals as goal

pub unreachable-requires-in_default-field_by_index : goal.unreachable-requires-in_default-field_by_index
unreachable-requires-in_default-field_by_index c =
    let fs = c.columns_of-fields.result.now in
    let within : c.loop-i.i < length (field_names fs) = omega (arith, c.loop-i-test.true, c.nfields-i-end.ensures) in
    has_type_at fs c.loop-i.i within c.in_default-field_by_index.ensures

pub columns_at-requires : goal.columns_at-requires
columns_at-requires c =
    let z = c.args.zones.now in
    let same = ap (λ (gs : Fields). length (field_names gs)) c.columns_of-fields.ensures.columns in
    let within : c.loop-i.i < length (field_names z.columns) = omega (arith, same, c.loop-i-test.true, c.nfields-i-end.ensures) in
    long-enough z.columns z.lengths (map block_view c.args.blocks.now) c.loop-i.i within c.requires.lengths

pub add_at-requires-clause-names : goal.add_at-requires-clause-names
add_at-requires-clause-names c =
    let z = c.args.zones.now in
    let i = c.loop-i.i in
    let ty = type_view c.in-Some-field_by_index.dtype.now in
    let typed : slice_get (field_types z.columns) i ≡ Some ty =
    ap (λ (gs : Fields). slice_get (field_types gs) i) (sym c.columns_of-fields.ensures.columns) ∙ sym c.in-Some-field_by_index.ensures in
    let names = names-in z.columns NonNullable (sound z c.columns_of-fields.ensures.rules).names in
    names-at z.columns i ty names.1 typed

pub add_at-requires-clause-types : goal.add_at-requires-clause-types
add_at-requires-clause-types c =
    let z = c.args.zones.now in
    let i = c.loop-i.i in
    let bs = map block_view c.args.blocks.now in
    let ty = type_view c.in-Some-field_by_index.dtype.now in
    let typed : slice_get (field_types z.columns) i ≡ Some ty =
    ap (λ (gs : Fields). slice_get (field_types gs) i) (sym c.columns_of-fields.ensures.columns) ∙ sym c.in-Some-field_by_index.ensures in
    let same = ap (λ (gs : Fields). length (field_names gs)) c.columns_of-fields.ensures.columns in
    let within : i < length (field_names z.columns) = omega (arith, same, c.loop-i-test.true, c.nfields-i-end.ensures) in
    let columns : c.as_slice.result.now ≡ map (column_at i) bs = c.as_slice.ensures.value ∙ c.in_ok-columns.ensures in
    subst (AreOf ty) (sym columns) (types-at (field_types z.columns) bs i ty c.requires.types typed (long-enough z.columns z.lengths bs i within c.requires.lengths))

pub loop-i-preserved : goal.loop-i-preserved
loop-i-preserved c =
    let z = c.args.zones.now in
    let i = c.loop-i.i in
    let bs = map block_view c.args.blocks.now in
    let rows = (table_of_blocks z bs).blocks in
    let f = c.in-Some.name.now in
    let ty = type_view c.in-Some-field_by_index.dtype.now in
    let same = sym c.columns_of-fields.ensures.columns in
    let named : slice_get (field_names z.columns) i ≡ Some f = ap (λ (gs : Fields). slice_get (field_names gs) i) same ∙ sym c.in-Some.ensures in
    let typed : slice_get (field_types z.columns) i ≡ Some ty = ap (λ (gs : Fields). slice_get (field_types gs) i) same ∙ sym c.in-Some-field_by_index.ensures in
    let distinct = (names-in z.columns NonNullable (sound z c.columns_of-fields.ensures.rules).names).0 in
    let now = map stat_view c.loop-i.stats.items in
    let after = map stat_view c.add_at.new.stats.items in
    let next : suc i ≡ i + 1 = omega arith in
    let own : c.in_ok-clone.field-0 ≡ f = c.in_ok-clone.ensures.cases in
    let path : c.in_ok-path.path ≡ f ∷ [] = c.in_ok-path.ensures ∙ ap (λ (g : Bytes). g ∷ []) own in
    let inner : column_rows c.as_slice.result.now ≡ map (map (field_of f)) rows =
    ap column_rows (c.as_slice.ensures.value ∙ c.in_ok-columns.ensures) ∙ rows-at z.columns z.lengths bs i f distinct named c.requires.lengths in
    let added : after ≡ now ++ walked_at (f ∷ []) ty (map (map (field_of f)) rows) = c.in_ok-add_at.ensures ∙ (λ j. now ++ walked_at (path j) ty (inner j)) in
    let left = c.loop-i.invariant ∙ ap (λ (gs : Fields). now ++ walked_below [] gs rows) (fields_from-here i z.columns f ty named typed) in
    let more = one-field-more (walked_below [] z.columns rows) now (walked_at (f ∷ []) ty (map (map (field_of f)) rows)) (walked_below [] (fields_from (suc i) z.columns) rows) after left added in
    more ∙ ap (λ (k : ℕ). after ++ walked_below [] (fields_from k z.columns) rows) next

pub returns : goal.returns
returns c =
    let z = c.args.zones.now in
    let rows = (table_of_blocks z (map block_view c.args.blocks.now)).blocks in
    let same = ap (λ (gs : Fields). length (field_names gs)) c.columns_of-fields.ensures.columns in
    let past : length (field_names z.columns) ≤ c.loop-i.i = omega (arith, same, c.loop-i-test.false, c.nfields-i-end.ensures) in
    let none = ap (λ (gs : Fields). walked_below [] gs rows) (fields_from-past c.loop-i.i z.columns past) in
    sym (nothing-left (walked_below [] z.columns rows) (map stat_view c.loop-i.stats.items) (walked_below [] (fields_from c.loop-i.i z.columns) rows) c.loop-i.invariant none)
    ∙ walked z.columns rows
