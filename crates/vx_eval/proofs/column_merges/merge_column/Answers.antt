use Rattle.std.proofs.Common.{◌≡◌, ap, sym, ◌∙◌, subst, true, List, Err, map, Some}
use Rattle.std.specs.List.{list_all}
use Rattle.std.proofs.lemmas.Result.{err_from_is_err_and}
use Rattle.vx_dtype.specs.StructTypes.{is_struct_ty}
use Rattle.vx_dtype.specs.Types.{Bytes}
use Rattle.vx_column.specs.Answers.{AnswersColumn}
use Rattle.vx_column.specs.StructColumns.{column_types, struct_column}
use Rattle.vx_semantics.specs.Merging.{merged_names}
use Rattle.vx_typing.specs.MergedFields.{name_of}
use Rattle.vx_eval.specs.MergedColumns.{column_names, merged_column}
use Rattle.vx_eval.specs.WholeStructs.{all_valid}
use Rattle.vx_eval.proofs.MergedLemmas.{found_by_name, merges, merges_all}
use Rattle.vx_eval.proofs.column_merges.merge_column.Goals as goal

pub merged_columns-requires : goal.merged_columns-requires
merged_columns-requires c =
    let same : c.as_slice-4.result.now ≡ c.as_slice-2.result.now = c.as_slice-4.ensures.value ∙ sym c.as_slice-2.ensures.value in
    rw (c.as_slice-3.ensures.value, same) c.in_ok-fields.ensures.places

pub returns-in_err-whole_structs : goal.returns-in_err-whole_structs
returns-in_err-whole_structs c t slots rows es len meant =
    let a = c.args in
    let cs = a.structs.items in
    let ms = c.in_ok-fields.fields.items in
    let ds = c.in_ok-columns.columns.items in
    let own : c.in_ok-fields.names ≡ map name_of ms = c.in_ok-fields.ensures.list in
    let names : map name_of ms ≡ merged_names column_names cs = c.in_ok-fields.ensures.names ∙ ap (merged_names column_names) c.as_slice-2.ensures.value in
    let found : map (λ f. merged_column f cs) (map name_of ms) ≡ map Some ds =
    found_by_name cs ms ds ((λ i. map (λ m. merged_column (name_of m) (sym c.as_slice-4.ensures.value i)) (sym c.as_slice-3.ensures.value i)) ∙ c.in_ok-columns.ensures) in
    let all : list_all is_struct_ty (column_types cs) ≡ true =
    ap (λ ks. list_all is_struct_ty (column_types ks)) (sym c.as_slice.ensures.value) ∙ sym c.all_structs.ensures ∙ c.if-not-all_structs.false in
    let p = err_from_is_err_and c.from_residual-in_err-whole_structs.result c.from_residual-in_err-whole_structs.ensures.1 in
    rw (p.1, p.2) (merges_all (map name_of ms) a.nullability cs ds a.len names found all t slots rows es len meant c.in_err-whole_structs.field-0.0
    (subst (λ (ns : List Bytes). AnswersColumn (Err c.in_err-whole_structs.field-0.0) (struct_column ns ds a.len (all_valid a.nullability a.len))) own c.in_err-whole_structs.ensures))

pub returns : goal.returns
returns c t slots rows es len meant =
    let a = c.args in
    let cs = a.structs.items in
    let ms = c.in_ok-fields.fields.items in
    let ds = c.in_ok-columns.columns.items in
    let own : c.in_ok-fields.names ≡ map name_of ms = c.in_ok-fields.ensures.list in
    let names : map name_of ms ≡ merged_names column_names cs = c.in_ok-fields.ensures.names ∙ ap (merged_names column_names) c.as_slice-2.ensures.value in
    let found : map (λ f. merged_column f cs) (map name_of ms) ≡ map Some ds =
    found_by_name cs ms ds ((λ i. map (λ m. merged_column (name_of m) (sym c.as_slice-4.ensures.value i)) (sym c.as_slice-3.ensures.value i)) ∙ c.in_ok-columns.ensures) in
    let all : list_all is_struct_ty (column_types cs) ≡ true =
    ap (λ ks. list_all is_struct_ty (column_types ks)) (sym c.as_slice.ensures.value) ∙ sym c.all_structs.ensures ∙ c.if-not-all_structs.false in
    merges (map name_of ms) a.nullability cs ds a.len names found all t slots rows es len meant c.in_ok-whole_structs.field-0
    (c.in_ok-whole_structs.ensures ∙ ap (λ (ns : List Bytes). struct_column ns ds a.len (all_valid a.nullability a.len)) own)
