use Rattle.std.proofs.Common.{List, ap, ◌∙◌, subst, Err}
use Rattle.std.proofs.lemmas.Result.{err_from_is_err_and}
use Rattle.vx_dtype.specs.Types.{Bytes}
use Rattle.vx_column.specs.Answers.{AnswersColumn}
use Rattle.vx_column.specs.StructColumns.{struct_column}
use Rattle.vx_eval.specs.WholeStructs.{all_valid}
use Rattle.vx_eval.proofs.PackLemmas.{packs, packs_not}
use Rattle.vx_eval.proofs.column_packs.pack_column.Goals as goal

pub returns-in_err-whole_structs : goal.returns-in_err-whole_structs
returns-in_err-whole_structs c t slots rows es len meant =
    let a = c.args in
    let told : List Bytes → _ = λ names. struct_column names a.fields.items a.len (all_valid a.nullability a.len) in
    let p = err_from_is_err_and c.from_residual-in_err-whole_structs.result c.from_residual-in_err-whole_structs.ensures.1 in
    rw (p.1, p.2) (packs_not a.names.now a.nullability a.fields.items a.len t slots rows es len meant c.in_err-whole_structs.field-0.0
    (subst (λ names. AnswersColumn (Err c.in_err-whole_structs.field-0.0) (told names)) c.in_ok-clone.ensures.cases c.in_err-whole_structs.ensures))

pub returns : goal.returns
returns c t slots rows es len meant =
    let a = c.args in
    let told : List Bytes → _ = λ names. struct_column names a.fields.items a.len (all_valid a.nullability a.len) in
    packs a.names.now a.nullability a.fields.items a.len t slots rows es len meant c.in_ok-whole_structs.field-0 (c.in_ok-whole_structs.ensures ∙ ap told c.in_ok-clone.ensures.cases)
