use Rattle.std.proofs.Common.{◌≡◌, ℕ, zero, suc, ◌+◌, List, [], ◌∷◌, map, None, Ok, refl, ap, ◌∙◌}
use Rattle.std.proofs.Math.ListN.{replicate}
use Rattle.std.specs.List.{range_with_len}
use Rattle.vx_dtype.specs.Types.{Bytes, struct_ty, no_fields}
use Rattle.vx_dtype.specs.declared.Nullability.TheVariants.{NonNullable}
use Rattle.vx_dtype.specs.Values.{struct_val, no_members}
use Rattle.vx_column.specs.Columns.{Column, column}
use Rattle.vx_column.specs.StructColumns.{struct_column, struct_row}
use Rattle.vx_eval.specs.Scopes.{empty_rows}
use Rattle.vx_eval.proofs.scopes.Scope.empty.Goals as goal

same_rows : {X : Type 0} (x : X) (a n : ℕ) → map (λ (_ : ℕ). x) (range_with_len a n) ≡ replicate n x
same_rows x a zero = refl
same_rows x a (suc n) = ap (λ xs. x ∷ xs) (same_rows x (a + 1) n)

without_fields : (root : Column) (fs : List Bytes) (cs : List Column) (n : ℕ) → fs ≡ [] → cs ≡ [] → Ok root ≡ struct_column fs cs n None → root ≡ empty_rows n
without_fields root [] [] n p q h =
    let same : root ≡ column (struct_ty no_fields NonNullable) (map (struct_row [] [] None) (range_with_len 0 n)) = cc in
    same ∙ ap (column (struct_ty no_fields NonNullable)) (same_rows (struct_val no_members) 0 n)
without_fields root (f ∷ fs) cs n p q h = absurd cc
without_fields root [] (c ∷ cs) n p q h = absurd cc

pub returns-in-Ok-clause-rows : goal.returns-in-Ok-clause-rows
returns-in-Ok-clause-rows c =
    c.new-in-Ok.ensures.rows ∙ without_fields c.in-Ok.root c.in_ok-names.names c.new-3.result.items c.args.len (c.in_ok-names.ensures ∙ c.new.ensures.items) c.new-3.ensures.items c.in-Ok.ensures
