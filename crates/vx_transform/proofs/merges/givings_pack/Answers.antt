use Rattle.std.proofs.Common.{◌∙◌, ap, sym, length, map}
use Rattle.vx_expr.specs.Trees.{pack, trees_of}
use Rattle.vx_typing.specs.declared.field_places.MergedField.{MergedField}
use Rattle.vx_typing.specs.MergedFields.{name_of}
use Rattle.vx_passes.specs.Merging.{given_field}
use Rattle.vx_transform.specs.CodeViews.{giving_view}
use Rattle.vx_transform.proofs.MergeLemmas.{as_many_fields, pack_by_fields}
use Rattle.vx_transform.proofs.merges.givings_pack.Goals as goal

pub given_fields-requires : goal.given_fields-requires
given_fields-requires c = rw c.as_slice.ensures.value c.in_ok-fields.ensures.places

pub pack_of-requires : goal.pack_of-requires
pack_of-requires c =
    let gs = map giving_view c.args.given.now in
    ap length c.in_ok-fields.ensures.list ∙ as_many_fields gs c.in_ok-fields.fields.items
    ∙ ap length (ap (map (λ (m : MergedField). given_field gs m.name)) (sym c.as_slice.ensures.value) ∙ sym c.in_ok-values.ensures)

pub returns : goal.returns
returns c =
    let gs = map giving_view c.args.given.now in
    let ms = c.in_ok-fields.fields.items in
    c.in_ok-pack_of.ensures
    ∙ ap (λ names. pack names (trees_of c.in_ok-values.values.items) c.args.nullability) c.in_ok-fields.ensures.list
    ∙ ap (λ values. pack (map name_of ms) (trees_of values) c.args.nullability) (c.in_ok-values.ensures ∙ ap (map (λ (m : MergedField). given_field gs m.name)) c.as_slice.ensures.value)
    ∙ pack_by_fields c.args.nullability gs ms c.in_ok-fields.ensures.names
