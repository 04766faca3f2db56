use Rattle.std.proofs.Common.{◌∙◌, refl, subst, sym, IsSome, All}
use Rattle.vx_dtype.specs.Types.{Bytes}
use Rattle.vx_typing.specs.MergedFields.{last_place}
use Rattle.vx_typing.proofs.FieldPlaces.{all_placed, all_given}
use Rattle.vx_typing.proofs.few_structs.fields_of_few.Goals as goal

pub fields_named-requires : goal.fields_named-requires
fields_named-requires c =
    subst (All (λ (f : Bytes). IsSome (last_place 0 f c.args.structs.now))) (sym c.as_slice.ensures.value)
    (all_placed c.args.structs.now (λ f. last_place 0 f c.args.structs.now) c.in_ok-names.names.items (λ f. refl) c.in_ok-names.ensures)

pub returns-clause-names : goal.returns-clause-names
returns-clause-names c = c.in_ok-fields_named.ensures.names ∙ c.as_slice.ensures.value ∙ c.in_ok-names.ensures

pub returns-clause-places : goal.returns-clause-places
returns-clause-places c =
    all_given c.args.structs.now (λ f. last_place 0 f c.args.structs.now) c.as_slice.result.now c.in_ok-fields_named.field-0.items (λ f. refl)
    c.in_ok-fields_named.ensures.names c.in_ok-fields_named.ensures.places
