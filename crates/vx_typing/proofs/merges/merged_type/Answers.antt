use Rattle.std.proofs.Common.{rules, ◌∙◌, ap, map, sym, Some}
use Rattle.vx_dtype.specs.TypeRules.{widened}
use Rattle.vx_dtype.specs.TypeViews.{type_view}
use Rattle.vx_semantics.specs.Typing.{names_in}
use Rattle.vx_typing.proofs.FieldPlaces.{seen_within, seen_giver}
use Rattle.vx_typing.proofs.MergedTypes.{has_fields, has_field, type_merged}
use Rattle.vx_typing.proofs.merges.merged_type.Goals as goal

pub bounds-types-field : goal.bounds-types-field
bounds-types-field c = seen_within type_view names_in c.args.types.now c.args.field.now c.requires

pub offset_bounds-types-field : goal.offset_bounds-types-field
offset_bounds-types-field c = let within = seen_within type_view names_in c.args.types.now c.args.field.now c.requires in search (rules, within)

pub unreachable-requires : goal.unreachable-requires
unreachable-requires c =
    let giver = c.index-types-field.result in
    has_fields (map type_view c.args.types.now) c.args.field.now (type_view giver) (seen_giver type_view names_in c.args.types.now c.args.field.now c.requires giver c.index-types-field.is) c.in_default.ensures

pub unreachable-requires-in_default-field_by_index : goal.unreachable-requires-in_default-field_by_index
unreachable-requires-in_default-field_by_index c =
    let giver = c.index-types-field.result in
    has_field (map type_view c.args.types.now) c.args.field.now (type_view giver) (seen_giver type_view names_in c.args.types.now c.args.field.now c.requires giver c.index-types-field.is)
    c.in-Some.fields.now c.in-Some.ensures c.in_default-field_by_index.ensures

pub returns : goal.returns
returns c =
    let giver = c.index-types-field.result in
    let u = type_view c.in-Some-field_by_index.dtype.now in
    type_merged (map type_view c.args.types.now) c.args.field.now (type_view giver) (seen_giver type_view names_in c.args.types.now c.args.field.now c.requires giver c.index-types-field.is)
    c.in-Some.fields.now c.in-Some.ensures u c.in-Some-field_by_index.ensures
    ∙ ap Some (sym (c.in_ok-union_nullability.ensures ∙ ap (widened u) c.nullability.ensures))
