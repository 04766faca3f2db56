use Rattle.std.proofs.Common.{◌∙◌, List, ap, map, subst, All}
use Rattle.vx_dtype.specs.Types.{Bytes}
use Rattle.vx_semantics.specs.Merging.{merged_names}
use Rattle.vx_typing.specs.MergedFields.{IsGivenBy, name_of}
use Rattle.vx_typing.proofs.FieldPlaces.{names_together}
use Rattle.vx_eval.specs.MergedColumns.{column_names}
use Rattle.vx_eval.proofs.column_merges.fields_together.Goals as goal

pub returns-clause-names : goal.returns-clause-names
returns-clause-names c =
    c.in_ok-fields.ensures.names ∙ ap (merged_names (λ (own : List Bytes). own)) (c.as_slice.ensures.value ∙ c.in_ok-own.ensures) ∙ names_together column_names c.args.structs.now

pub returns-clause-places : goal.returns-clause-places
returns-clause-places c = subst (λ structs. All (IsGivenBy structs) c.in_ok-fields.fields.items) (c.as_slice.ensures.value ∙ c.in_ok-own.ensures) c.in_ok-fields.ensures.places

pub returns-clause-list : goal.returns-clause-list
returns-clause-list c = c.in_ok-names.ensures ∙ ap (map name_of) c.as_slice-2.ensures.value
