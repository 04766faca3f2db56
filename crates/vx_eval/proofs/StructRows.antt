-- Columns of structs that are never null: their type and rows, and when they are refused.
use Rattle.std.proofs.Common.{◌≡◌, refl, ap, sym, ◌∙◌, ℕ, zero, suc, ◌+◌, ◌==◌, Bool, true, false, ◌&&◌, cond, List, [], ◌∷◌, map, length, Some, Ok, arith}
use Rattle.std.specs.List.{range_with_len, slice_get}
use Rattle.std.specs.Cmp.{unsigned_Decides}
use Rattle.std.proofs.Math.ListN.{get_or, replicate}
use Rattle.std.proofs.lemmas.List.{length-replicate}
use Rattle.vx_dtype.specs.declared.Nullability.{Nullability}
use Rattle.vx_dtype.specs.declared.Nullability.TheVariants.{NonNullable, Nullable}
use Rattle.vx_dtype.specs.Types.{Bytes, struct_ty}
use Rattle.vx_dtype.specs.TypeRules.{distinct_names}
use Rattle.vx_dtype.specs.Values.{Val, null_val, struct_val, Members}
use Rattle.vx_dtype.specs.Zipped.{zipped}
use Rattle.vx_column.specs.Columns.{Column, column}
use Rattle.vx_column.specs.Answers.{unless}
use Rattle.vx_column.specs.StructColumns.{column_types, all_have_rows, truths_number, nullability_by, is_valid_row, row_members, struct_row, made_struct, struct_column}
use Rattle.vx_column.specs.declared.errors.ColumnError.TheVariants.{WrongLength, DuplicateField}
use Rattle.vx_eval.specs.WholeStructs.{all_valid}

-- what a rule gives by place and another by row is one list where both agree
map_range : {A B : Type 0} (f : ℕ → B) (g : A → B) (xs : List A) (a : ℕ) → ((i : ℕ) (x : A) → slice_get xs i ≡ Some x → f (a + i) ≡ g x) → map f (range_with_len a (length xs)) ≡ map g xs
map_range f g [] a h = refl
map_range f g (x ∷ xs) a h =
    let first : a ≡ a + 0 = omega arith in
    let behind = map_range f g xs (a + 1) (λ i y e. (let next : a + 1 + i ≡ a + suc i = omega arith in ap f next) ∙ h (suc i) y e) in
    λ j. (ap f first ∙ h 0 x refl) j ∷ behind j

always : (n i : ℕ) → get_or (replicate n true) i true ≡ true
always zero i = refl
always (suc n) zero = refl
always (suc n) (suc i) = always n i

valid_row : (m : Nullability) (n i : ℕ) → is_valid_row (all_valid m n) i ≡ true
valid_row NonNullable n i = refl
valid_row Nullable n i = always n i

valid_number : (m : Nullability) (n : ℕ) → truths_number n (all_valid m n) ≡ true
valid_number NonNullable n = refl
valid_number Nullable n = (unsigned_Decides (length (replicate n true)) n).1 (length-replicate n true)

nullable_so : (m : Nullability) (n : ℕ) → nullability_by (all_valid m n) ≡ m
nullable_so NonNullable n = refl
nullable_so Nullable n = refl

lengths_told : (b x y : Bool) → x ≡ true → y ≡ true → (b && (x && y)) ≡ b
lengths_told true x y p q = ap (λ z. z && y) p ∙ q
lengths_told false x y p q = refl

module _ (names : List Bytes) (cs : List Column) (m : Nullability) (n : ℕ) where
  -- the columns are as many as the names exactly where the lengths agree, and names stand once
  pub struct_told : all_have_rows n cs ≡ true
      → struct_column names cs n (all_valid m n) ≡ unless (length names == length cs) WrongLength (unless (distinct_names names) DuplicateField (Ok (made_struct names cs n (all_valid m n))))
  struct_told have =
      ap (λ b. unless b WrongLength (unless (distinct_names names) DuplicateField (Ok (made_struct names cs n (all_valid m n)))))
      (lengths_told (length names == length cs) (all_have_rows n cs) (truths_number n (all_valid m n)) have (valid_number m n))

  -- the type of the structs, and the rows of which the members are known
  pub struct_made : (rows : List Val) (members : Val → Members) → length rows ≡ n → ((i : ℕ) (row : Val) → slice_get rows i ≡ Some row → row_members names cs i ≡ members row)
      → made_struct names cs n (all_valid m n) ≡ column (struct_ty (zipped names (column_types cs)) m) (map (λ row. struct_val (members row)) rows)
  struct_made rows members len same =
      let each : (i : ℕ) (row : Val) → slice_get rows i ≡ Some row → struct_row names cs (all_valid m n) (0 + i) ≡ struct_val (members row) =
      λ i row at. (let same : 0 + i ≡ i = omega arith in ap (struct_row names cs (all_valid m n)) same) ∙ ap (λ b. cond b (struct_val (row_members names cs i)) null_val) (valid_row m n i) ∙ ap struct_val (same i row at) in
      let made = ap (λ k. map (struct_row names cs (all_valid m n)) (range_with_len 0 k)) (sym len) ∙ map_range (struct_row names cs (all_valid m n)) (λ row. struct_val (members row)) rows 0 each in
      λ i. column (struct_ty (zipped names (column_types cs)) (nullable_so m n i)) (made i)
