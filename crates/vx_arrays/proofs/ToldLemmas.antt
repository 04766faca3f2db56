-- The columns that are told are of the types that are asked for, and have so many rows.
use Rattle.std.proofs.Common.{◌≡◌, ℕ, ◌+◌, ◌*◌, List, [], ◌∷◌, length, map, Bool, true, false, ◌&&◌, Option, refl, ◌∙◌, ap}
use Rattle.std.specs.Prelude.{Result, Ok, Err, ◌==◌, nat_le}
use Rattle.std.specs.List.{list_all, range_with_len}
use Rattle.std.proofs.lemmas.Bool.{and_from, eq-eqb}
use Rattle.std.proofs.lemmas.List.{length-map}
use Rattle.std.proofs.lemmas.List.FromFn.{length-map-range_with_len}
use Rattle.vx_dtype.specs.declared.Nullability.{Nullability}
use Rattle.vx_dtype.specs.declared.PType.{PType}
use Rattle.vx_dtype.specs.Types.{Bytes, Ty, bool_ty, int_ty, text_ty, list_ty, struct_ty}
use Rattle.vx_dtype.specs.TypeRules.{nullability_of}
use Rattle.vx_dtype.specs.Values.{Val}
use Rattle.vx_words.specs.Words.{truth_val}
use Rattle.vx_column.specs.Columns.{Column, column}
use Rattle.vx_column.specs.PlainValues.{number_val, text_or_null}
use Rattle.vx_column.specs.StructColumns.{column_types, all_have_rows}
use Rattle.vx_arrays.specs.declared.errors.ArrayError.{ArrayError}
use Rattle.vx_arrays.specs.declared.errors.ArrayError.TheVariants.{WrongBuffers, BadText, NullCell}
use Rattle.vx_arrays.specs.Bitmaps.{bit_at}
use Rattle.vx_arrays.specs.Arrays.{◌>>=◌, unless, buffer_told, has_validity, has_bits, cell_at, cells, may_have, column_of_cells, truths_column, width_of, number_at}
use Rattle.vx_arrays.specs.Arrays.{numbers_column, text_at, has_places, has_text, texts_column, buffer_count, column_told, columns_from}

-- ---- what an answer stands on
bound : {A B : Type 0} (r : Result A ArrayError) (further : A → Result B ArrayError) (y : B) → r >>= further ≡ Ok y → (x : A) × (r ≡ Ok x) × (further x ≡ Ok y)
bound (Ok x) further y h = (x, refl, h)
bound (Err e) further y h = absurd cc

allowed : {A : Type 0} (b : Bool) (e : ArrayError) (r : Result A ArrayError) (y : A) → unless b e r ≡ Ok y → r ≡ Ok y
allowed true e r y h = h
allowed false e r y h = absurd cc

-- the column is of the type, and has so many rows
pub record IsAsAsked (t : Ty) (n : ℕ) (c : Column) : Type 0 where
  pub type_is : c.ty ≡ t
  pub rows_are : length c.rows ≡ n

cells_asked : {A : Type 0} (t : Ty) (value : Option A → Val) (validity : Bytes) (f : ℕ → A) (n : ℕ) (c : Column)
    → column_of_cells t value (cells validity f n) ≡ Ok c → IsAsAsked t n c
cells_asked t value validity f n c h =
    let xs = cells validity f n in
    let kept = allowed (may_have (nullability_of t) xs) NullCell (Ok (column t (map value xs))) c h in
    let same : c ≡ column t (map value xs) = cc in
    record {
      type_is = ap (λ (d : Column). d.ty) same;
      rows_are = ap (λ (d : Column). length d.rows) same ∙ length-map xs value ∙ length-map-range_with_len (cell_at validity f) 0 n;
    }

truths_asked : (n : Nullability) (rows : ℕ) (validity values : Bytes) (c : Column) → truths_column n rows validity values ≡ Ok c → IsAsAsked (bool_ty n) rows c
unfolding truths_column
truths_asked n rows validity values c h =
    let told = column_of_cells (bool_ty n) truth_val (cells validity (bit_at values) rows) in
    cells_asked (bool_ty n) truth_val validity (bit_at values) rows c (allowed (has_validity validity rows && has_bits values rows) WrongBuffers told c h)

numbers_asked : (p : PType) (n : Nullability) (rows : ℕ) (validity values : Bytes) (c : Column) → numbers_column p n rows validity values ≡ Ok c
    → IsAsAsked (int_ty p n) rows c
unfolding numbers_column
numbers_asked p n rows validity values c h =
    let told = column_of_cells (int_ty p n) (number_val p) (cells validity (number_at p values) rows) in
    cells_asked (int_ty p n) (number_val p) validity (number_at p values) rows c
    (allowed (has_validity validity rows && nat_le (width_of p * rows) (length values)) WrongBuffers told c h)

texts_asked : (n : Nullability) (rows : ℕ) (validity offsets bytes : Bytes) (c : Column) → texts_column n rows validity offsets bytes ≡ Ok c
    → IsAsAsked (text_ty n) rows c
unfolding texts_column
texts_asked n rows validity offsets bytes c h =
    let all = list_all (has_text validity offsets bytes) (range_with_len 0 rows) in
    let told = column_of_cells (text_ty n) text_or_null (cells validity (text_at offsets bytes) rows) in
    cells_asked (text_ty n) text_or_null validity (text_at offsets bytes) rows c
    (allowed all BadText told c (allowed (has_validity validity rows && has_places offsets bytes rows) WrongBuffers (unless all BadText told) c h))

column_asked : (t : Ty) (rows : ℕ) (body : Bytes) (buffers : List ℕ) (k : ℕ) (c : Column) → column_told t rows body buffers k ≡ Ok c → IsAsAsked t rows c
unfolding column_told
column_asked (bool_ty n) rows body buffers k c h =
    let first = bound (buffer_told body buffers k) (λ validity. buffer_told body buffers (k + 1) >>= λ values. truths_column n rows validity values) c h in
    let second = bound (buffer_told body buffers (k + 1)) (λ values. truths_column n rows first.0 values) c first.2 in
    truths_asked n rows first.0 second.0 c second.2
column_asked (int_ty p n) rows body buffers k c h =
    let first = bound (buffer_told body buffers k) (λ validity. buffer_told body buffers (k + 1) >>= λ values. numbers_column p n rows validity values) c h in
    let second = bound (buffer_told body buffers (k + 1)) (λ values. numbers_column p n rows first.0 values) c first.2 in
    numbers_asked p n rows first.0 second.0 c second.2
column_asked (text_ty n) rows body buffers k c h =
    let first =
    bound (buffer_told body buffers k)
    (λ validity. buffer_told body buffers (k + 1) >>= λ offsets. buffer_told body buffers (k + 2) >>= λ bytes. texts_column n rows validity offsets bytes)
    c h in
    let second =
    bound (buffer_told body buffers (k + 1)) (λ offsets. buffer_told body buffers (k + 2) >>= λ bytes. texts_column n rows first.0 offsets bytes) c first.2 in
    let third = bound (buffer_told body buffers (k + 2)) (λ bytes. texts_column n rows first.0 second.0 bytes) c second.2 in
    texts_asked n rows first.0 second.0 third.0 c third.2
column_asked (list_ty e n) rows body buffers k c h = absurd cc
column_asked (struct_ty fs n) rows body buffers k c h = absurd cc

-- ---- columns
pub columns_asked : (ts : List Ty) (rows : ℕ) (body : Bytes) (buffers : List ℕ) (k : ℕ) (cs : List Column) → columns_from k ts rows body buffers ≡ Ok cs
    → (column_types cs ≡ ts) × (all_have_rows rows cs ≡ true)
columns_asked [] rows body buffers k cs h =
    let none = allowed (length buffers == 2 * k) WrongBuffers (Ok []) cs h in
    let same : cs ≡ [] = cc in
    (ap column_types same, ap (all_have_rows rows) same)
columns_asked (t ∷ ts) rows body buffers k cs h =
    let first = bound (column_told t rows body buffers k) (λ c. columns_from (k + buffer_count t) ts rows body buffers >>= λ ds. Ok (c ∷ ds)) cs h in
    let others = bound (columns_from (k + buffer_count t) ts rows body buffers) (λ ds. Ok (first.0 ∷ ds)) cs first.2 in
    let whole = others.2 in
    let same : cs ≡ first.0 ∷ others.0 = cc in
    let here = column_asked t rows body buffers k first.0 first.1 in
    let rest = columns_asked ts rows body buffers (k + buffer_count t) others.0 others.1 in (
      ap column_types same ∙ λ j. here.type_is j ∷ rest.0 j,
      ap (all_have_rows rows) same
          ∙ and_from (length first.0.rows == rows) (all_have_rows rows others.0) (eq-eqb (length first.0.rows) rows here.rows_are) rest.1,
    )
