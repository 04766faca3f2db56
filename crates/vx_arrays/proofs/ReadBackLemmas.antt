-- Truths that are written as a bitmap are read back.
use Rattle.std.proofs.Common.{◌≡◌, ℕ, ◌+◌, List, [], ◌∷◌, length, map, take, Bool, true, false, Some, None, refl, ◌∙◌, sym, ap, arith}
use Rattle.std.specs.Prelude.{Result, Ok, Err, nat_le, is_some}
use Rattle.std.specs.List.{list_all}
use Rattle.std.proofs.lemmas.Bool.{le-leb, or_right, cond-true}
use Rattle.std.proofs.lemmas.List.{take_all, length-map, get_or-map}
use Rattle.std.proofs.lemmas.List.FromFn.{fill_by_all}
use Rattle.std.proofs.lemmas.Simd.{map-map}
use Rattle.vx_dtype.specs.declared.Nullability.{Nullability}
use Rattle.vx_dtype.specs.Types.{Bytes, bool_ty}
use Rattle.vx_dtype.specs.TypeRules.{is_nullable}
use Rattle.vx_dtype.specs.Values.{bool_val}
use Rattle.vx_words.specs.Words.{truth_val}
use Rattle.vx_column.specs.Columns.{Column, column}
use Rattle.vx_arrays.specs.declared.errors.ArrayError.{ArrayError}
use Rattle.vx_arrays.specs.declared.errors.ArrayError.TheVariants.{WrongBuffers, NullCell}
use Rattle.vx_arrays.specs.Bitmaps.{bytes_for, bit_at, bitmap_of}
use Rattle.vx_arrays.specs.Arrays.{◌>>=◌, buffer_told, has_bits, cell_at, cells, may_have, column_of_cells, truths_column, column_told, columns_from, arrays_told}
use Rattle.vx_arrays.proofs.BitmapLemmas.{length-bitmap_of, bit_at-bitmap_of}

all_some : (flags : List Bool) → list_all is_some (map (λ (b : Bool). Some b) flags) ≡ true
all_some [] = refl
all_some (b ∷ flags) = all_some flags

module _ (n : Nullability) (flags : List Bool) where
  abbrev body : Bytes
  body = bitmap_of flags

  abbrev buffers : List ℕ
  buffers = 0 ∷ 0 ∷ 0 ∷ length (bitmap_of flags) ∷ []

  read_cells : cells [] (bit_at body) (length flags) ≡ map (λ (b : Bool). Some b) flags
  read_cells =
      sym
      (fill_by_all (cell_at [] (bit_at body)) (map (λ (b : Bool). Some b) flags) (length flags) None
      (length-map flags (λ (b : Bool). Some b))
      (λ k h. get_or-map (λ (b : Bool). Some b) flags k false None h ∙ ap (λ (b : Bool). Some b) (sym (bit_at-bitmap_of flags k))))

  enough : has_bits body (length flags) ≡ true
  enough = le-leb (bytes_for (length flags)) (length body) (omega (arith, length-bitmap_of flags))

  may : may_have n (map (λ (b : Bool). Some b) flags) ≡ true
  may = or_right (is_nullable n) (list_all is_some (map (λ (b : Bool). Some b) flags)) (all_some flags)

  read_column : truths_column n (length flags) [] body ≡ Ok (column (bool_ty n) (map bool_val flags))
  unfolding truths_column
  read_column =
      let told : Result Column ArrayError = column_of_cells (bool_ty n) truth_val (cells [] (bit_at body) (length flags)) in
      let rows = map-map truth_val (λ (b : Bool). Some b) flags in
      cond-true (has_bits body (length flags)) told (Err WrongBuffers) enough
      ∙ ap (column_of_cells (bool_ty n) truth_val) read_cells
      ∙ cond-true (may_have n (map (λ (b : Bool). Some b) flags)) (Ok (column (bool_ty n) (map truth_val (map (λ (b : Bool). Some b) flags)))) (Err NullCell)
      may
      ∙ ap (λ vs. Ok (column (bool_ty n) vs)) rows

  first_buffer : buffer_told body buffers 0 ≡ Ok []
  unfolding buffer_told
  first_buffer = cond-true (nat_le 0 (length body)) (Ok []) (Err WrongBuffers) (le-leb 0 (length body) (omega arith))

  second_buffer : buffer_told body buffers 1 ≡ Ok body
  unfolding buffer_told
  second_buffer =
      let long : ℕ = length body in
      cond-true (nat_le (0 + long) long) (Ok (take long body)) (Err WrongBuffers) (le-leb (0 + long) long (omega arith))
      ∙ ap (λ (bs : Bytes). Ok bs) (take_all long body (omega arith))

  first_column : column_told (bool_ty n) (length flags) body buffers 0
      ≡ Ok (column (bool_ty n) (map bool_val flags))
  unfolding column_told
  first_column =
      rw (first_buffer, second_buffer) read_column

  pub read_back : arrays_told (bool_ty n ∷ []) (length flags) (bitmap_of flags) (0 ∷ 0 ∷ 0 ∷ length (bitmap_of flags) ∷ [])
      ≡ Ok (column (bool_ty n) (map bool_val flags) ∷ [])
  read_back =
      ap (λ (r : Result Column ArrayError). r >>= λ c.
      columns_from 2 [] (length flags) body buffers >>= λ cs. Ok (c ∷ cs)) first_column
