use Rattle.std.proofs.Common.{◌≡◌, ◌∙◌, List, ap, subst, sym, IsSome, All}
use Rattle.std.specs.List.{flat_map}
use Rattle.std.specs.Ordering.{nat_cmp}
use Rattle.std.specs.Cmp.Lexicographic.{slice_cmp}
use Rattle.std.specs.BTreeMap.{get}
use Rattle.vx_dtype.specs.Types.{Bytes}
use Rattle.vx_dtype.specs.Structs.{first_names}
use Rattle.vx_typing.proofs.FieldPlaces.{all_placed, all_given}
use Rattle.vx_typing.proofs.field_places.fields_by_name.Goals as goal

pub placed_fields-requires : goal.placed_fields-requires
placed_fields-requires c =
    let first : c.in_ok-names.names.items ≡ first_names (flat_map (λ (own : List Bytes). own) c.args.structs.now) = c.in_ok-names.ensures ∙ ap first_names (c.as_slice.ensures.value ∙ c.in_ok-all_names.ensures) in
    subst (All (λ f. IsSome (get (slice_cmp nat_cmp) c.in_ok-places.places f))) (sym c.as_slice-2.ensures.value)
    (all_placed c.args.structs.now (get (slice_cmp nat_cmp) c.in_ok-places.places) c.in_ok-names.names.items c.in_ok-places.ensures first)

pub returns-clause-names : goal.returns-clause-names
returns-clause-names c =
    c.in_ok-placed_fields.ensures.names ∙ c.as_slice-2.ensures.value ∙ c.in_ok-names.ensures ∙ ap first_names (c.as_slice.ensures.value ∙ c.in_ok-all_names.ensures)

pub returns-clause-places : goal.returns-clause-places
returns-clause-places c =
    let noted = get (slice_cmp nat_cmp) c.in_ok-places.places in
    all_given c.args.structs.now noted c.as_slice-2.result.now c.in_ok-placed_fields.field-0.items c.in_ok-places.ensures c.in_ok-placed_fields.ensures.names c.in_ok-placed_fields.ensures.places
