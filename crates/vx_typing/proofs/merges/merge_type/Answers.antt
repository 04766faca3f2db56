use Rattle.std.proofs.Common.{◌≡◌, ◌∙◌, ap, map, sym, true, Ok}
use Rattle.std.specs.List.{list_all}
use Rattle.vx_dtype.specs.StructTypes.{is_struct_ty}
use Rattle.vx_dtype.specs.Types.{Fields, struct_ty}
use Rattle.vx_dtype.specs.TypeViews.{type_view}
use Rattle.vx_semantics.specs.Merging.{merged_names}
use Rattle.vx_semantics.specs.Typing.{not_struct, unless, names_in, merged_fields_at}
use Rattle.vx_typing.specs.MergedFields.{name_of}
use Rattle.vx_typing.proofs.merges.merge_type.Goals as goal

pub typed_fields-requires-clause-names : goal.typed_fields-requires-clause-names
typed_fields-requires-clause-names c = c.in_ok-fields.ensures.list ∙ ap (map name_of) (sym c.as_slice.ensures.value)

pub typed_fields-requires-clause-given : goal.typed_fields-requires-clause-given
typed_fields-requires-clause-given c = rw c.as_slice.ensures.value c.in_ok-fields.ensures.places

pub returns : goal.returns
returns c =
    let ts = map type_view c.args.types.now in
    let n = c.args.nullability in
    let all : list_all is_struct_ty ts ≡ true = sym c.all_structs.ensures ∙ c.if-not-all_structs.false in
    let names = ap (map name_of) c.as_slice.ensures.value ∙ c.in_ok-fields.ensures.names in
    ap (λ b. unless b not_struct (Ok (struct_ty (merged_fields_at (merged_names names_in ts) ts) n))) all
    ∙ ap (λ (fs : Fields). Ok (struct_ty fs n)) (sym (c.in_ok-merged.ensures ∙ ap (λ fs. merged_fields_at fs ts) names))
