use Rattle.std.proofs.Common.{rules, ◌≡◌, ◌+◌, ◌<◌, ◌≤◌, suc, ◌∷◌, [], ◌++◌, true, List, length, map, sym, ap, ◌∙◌, subst, arith, add-one}
use Rattle.vx_dtype.specs.TypeRules.{depth_of, field_names, field_type, no_name_twice}
use Rattle.vx_dtype.specs.Types.{Bytes, Ty, struct_ty, Fields}
use Rattle.vx_dtype.specs.TypeViews.{type_view}
use Rattle.vx_dtype.specs.Values.{Val}
use Rattle.vx_dtype.specs.Structs.{field_of}
use Rattle.vx_dtype.proofs.FieldsFrom.{fields_from, fields_from-here, fields_from-past, has_type_at, depth-at}
use Rattle.vx_column.specs.Columns.{Column}
use Rattle.vx_zones.specs.ZoneViews.{stat_view}
use Rattle.vx_stats.specs.ColumnFacts.{AreOf, column_rows, field_column_of}
use Rattle.vx_stats.specs.Walks.{walked_at, walked_below}
use Rattle.vx_stats.proofs.ColumnLemmas.{structs-alike, type-of-name, have-field, fields-alike, field-rows, names-at, names-in}
use Rattle.vx_stats.proofs.WalkLemmas.{one-field-more, nothing-left}
use Rattle.vx_stats.proofs.walks.+add.Goals as goal

pub add_at-add_below-requires : goal.add_at-add_below-requires
unfolding depth_of
add_at-add_below-requires t c =
    let fs = c.in-Struct.fields in
    let n = c.in-Struct.field-1 in
    let ty : type_view c.args.dtype.now ≡ struct_ty fs n = ap type_view c.in-Struct.is in
    let names = names-in fs n (subst (λ (s : Ty). no_name_twice s ≡ true) ty c.requires.names) in
    let structs = structs-alike fs n c.args.columns.now (subst (λ (s : Ty). AreOf s c.args.columns.now) ty c.requires.types) in
    (omega (arith, ap depth_of ty, c.decreases), (names.0, (names.1, structs)))

pub add_below-unreachable-requires-in_default-field_by_index : goal.add_below-unreachable-requires-in_default-field_by_index
add_below-unreachable-requires-in_default-field_by_index t c =
    let within : c.loop-i.i < length (field_names c.args.fields.now) = omega (arith, c.loop-i-test.true, c.nfields-i-end.ensures) in
    has_type_at c.args.fields.now c.loop-i.i within c.in_default-field_by_index.ensures

pub add_below-field_of_each-requires : goal.add_below-field_of_each-requires
add_below-field_of_each-requires t c =
    let fs = c.args.fields.now in
    let f = c.in-Some.name.now in
    let ty = type_view c.in-Some-field_by_index.dtype.now in
    have-field f fs ty c.args.columns.now (type-of-name fs c.loop-i.i f ty c.requires.distinct (sym c.in-Some.ensures) (sym c.in-Some-field_by_index.ensures)) c.requires.structs

pub add_below-add_at-requires : goal.add_below-add_at-requires
add_below-add_at-requires t c =
    let fs = c.args.fields.now in
    let f = c.in-Some.name.now in
    let ty = type_view c.in-Some-field_by_index.dtype.now in
    let found = type-of-name fs c.loop-i.i f ty c.requires.distinct (sym c.in-Some.ensures) (sym c.in-Some-field_by_index.ensures) in
    let inner : c.as_slice.result.now ≡ map (field_column_of f) c.args.columns.now = c.as_slice.ensures.value ∙ c.in_ok-inner.ensures in
    let d = depth-at c.loop-i.i fs ty (sym c.in-Some-field_by_index.ensures) in (
      omega (arith, d, c.decreases),
      (
        names-at fs c.loop-i.i ty c.requires.names (sym c.in-Some-field_by_index.ensures),
        subst (AreOf ty) (sym inner) (fields-alike f fs ty c.args.columns.now found c.requires.structs),
      ),
    )

pub add_below-loop-i-preserved : goal.add_below-loop-i-preserved
add_below-loop-i-preserved t c =
    let fs = c.args.fields.now in
    let f = c.in-Some.name.now in
    let ty = type_view c.in-Some-field_by_index.dtype.now in
    let i = c.loop-i.i in
    let path = c.args.path.now in
    let columns = column_rows c.args.columns.now in
    let all = map stat_view c.args.stats.now.items ++ walked_below path fs columns in
    let now = map stat_view c.loop-i.stats.items in
    let after = map stat_view c.add_at.new.stats.items in
    let next : suc i ≡ i + 1 = omega arith in
    let named : c.in_ok-clone.field-0 ≡ f = c.in_ok-clone.ensures.cases in
    let below : c.in_ok-below.below ≡ path ++ f ∷ [] = c.in_ok-below.ensures ∙ ap (λ (g : Bytes). path ++ g ∷ []) named in
    let inner : column_rows c.as_slice.result.now ≡ map (map (field_of f)) columns =
    ap column_rows (c.as_slice.ensures.value ∙ c.in_ok-inner.ensures) ∙ field-rows f c.args.columns.now in
    let added : after ≡ now ++ walked_at (path ++ f ∷ []) ty (map (map (field_of f)) columns) =
    c.in_ok-add_at.ensures ∙ (λ j. now ++ walked_at (below j) ty (inner j)) in
    let here = fields_from-here i fs f ty (sym c.in-Some.ensures) (sym c.in-Some-field_by_index.ensures) in
    let left = c.loop-i.invariant ∙ ap (λ (gs : Fields). now ++ walked_below path gs columns) here in
    let more = one-field-more all now (walked_at (path ++ f ∷ []) ty (map (map (field_of f)) columns)) (walked_below path (fields_from (suc i) fs) columns) after left added in
    more ∙ ap (λ (k : _). after ++ walked_below path (fields_from k fs) columns) next

pub add_below-returns : goal.add_below-returns
add_below-returns t c =
    let fs = c.args.fields.now in
    let path = c.args.path.now in
    let columns = column_rows c.args.columns.now in
    let past : length (field_names fs) ≤ c.loop-i.i = omega (arith, c.loop-i-test.false, c.nfields-i-end.ensures) in
    let none = ap (λ (gs : Fields). walked_below path gs columns) (fields_from-past c.loop-i.i fs past) in
    let all = map stat_view c.args.stats.now.items ++ walked_below path fs columns in
    sym (nothing-left all (map stat_view c.loop-i.stats.items) (walked_below path (fields_from c.loop-i.i fs) columns) c.loop-i.invariant none)
