-- The blocks hold all rows, and each row is one of the table's type.
use Rattle.std.proofs.Common.{◌≡◌, ◌∙◌, sym, ap, refl, ℕ, zero, suc, ◌+◌, ◌-◌, ◌*◌, ◌/◌, ◌%◌, ◌^◌, ◌<◌, ◌≤◌, min, Bool, true, false, cond, nat_eq, List, [], ◌∷◌, ◌++◌, map, length, Option, Some, None, flat_map, append-nil, arith}
use Rattle.std.specs.List.{range_with_len, list_all}
use Rattle.std.proofs.lemmas.Bool.{and_from, le-leb}
use Rattle.std.proofs.lemmas.List.{length-map}
use Rattle.std.proofs.lemmas.List.Concat.{flat_map-append}
use Rattle.std.proofs.lemmas.List.FromFn.{length-range_with_len}
use Rattle.vx_dtype.specs.declared.PType.TheVariants.{I32}
use Rattle.vx_dtype.specs.declared.Nullability.TheVariants.{Nullable}
use Rattle.vx_dtype.specs.Types.{int_ty}
use Rattle.vx_dtype.specs.Fits.{val_fits}
use Rattle.vx_semantics.specs.Tables.{row_type}
use Rattle.vx_laws_generated.specs.GeneratedTable.{v_column, number_at, number_val, rows_in, block_length, generated_row, generated_block, generated_columns}
use Rattle.vx_laws_generated.specs.GeneratedLaws.{BlocksHoldAllRows, GeneratedBlocksFit}
use Rattle.vx_laws_generated.proofs.Ranges.{range-append, range-last, all-of-range}
use Rattle.vx_laws_generated.proofs.Chosen.{OnNumber}

-- ---- all rows

-- the first blocks hold the first rows
rows-to : (rows k : ℕ) → 64 * k ≤ rows + 63 → flat_map (rows_in rows) (range_with_len 0 k) ≡ range_with_len 0 (min (64 * k) rows)
rows-to rows zero h = let none : 0 ≡ min (64 * zero) rows = omega arith in ap (range_with_len 0) none
rows-to rows (suc k) h =
    let before : min (64 * k) rows ≡ 64 * k = omega arith in
    let here : zero + k ≡ k = omega arith in
    let start : 64 * k ≡ 0 + 64 * k = omega arith in
    let end : 64 * k + min 64 (rows - 64 * k) ≡ min (64 * suc k) rows = omega arith in
    ap (flat_map (rows_in rows)) (range-last 0 k)
    ∙ flat_map-append (rows_in rows) (range_with_len 0 k) ((0 + k) ∷ [])
    ∙ ap (λ (j : ℕ). flat_map (rows_in rows) (range_with_len 0 k) ++ (rows_in rows j ++ [])) here
    ∙ ap (λ (xs : List ℕ). flat_map (rows_in rows) (range_with_len 0 k) ++ xs) (append-nil (rows_in rows k))
    ∙ ap (λ (xs : List ℕ). xs ++ rows_in rows k) (rows-to rows k (omega arith) ∙ ap (range_with_len 0) before)
    ∙ ap (λ (j : ℕ). range_with_len 0 (64 * k) ++ range_with_len j (block_length rows k)) start
    ∙ sym (range-append 0 (64 * k) (min 64 (rows - 64 * k)))
    ∙ ap (range_with_len 0) end

pub blocks_hold_all_rows : BlocksHoldAllRows
blocks_hold_all_rows rows =
    let below : 64 * ((rows + 63) / 64) ≤ rows + 63 = omega arith in
    let all : min (64 * ((rows + 63) / 64)) rows ≡ rows = omega arith in
    rows-to rows ((rows + 63) / 64) below ∙ ap (range_with_len 0) all

-- a block ends within the rows
pub block-within : (rows block : ℕ) → block < 0 + (rows + 63) / 64 → 64 * block + block_length rows block ≤ rows
block-within rows block h = omega arith

-- ---- rows of the type

-- `v` is below 100
pub v-below : (row : ℕ) → OnNumber (λ n. n < 100) (number_at v_column row)
v-below row = by (nat_eq (row % 10) 9)
  where
    by : (b : Bool) → OnNumber (λ n. n < 100) (cond b None (Some ((37 * row + 11) % 100)))
    by true = tt
    by false = let below : (37 * row + 11) % 100 < 100 = omega arith in below

v-fits : (n : Option ℕ) → OnNumber (λ n. n < 100) n → val_fits (number_val I32 n) (int_ty I32 Nullable) ≡ true
unfolding val_fits
v-fits None h = refl
v-fits (Some n) h = le-leb n 2147483647 (omega arith)

row-fits : (row : ℕ) → row < 2 ^ 32 → val_fits (generated_row row) (row_type generated_columns) ≡ true
unfolding val_fits
row-fits row h =
    and_from _ _ (le-leb row 9223372036854775807 (omega arith)) (and_from _ _ (v-fits (number_at v_column row) (v-below row)) refl)

-- as many rows as the statistics say
lengths-of : (rows a n : ℕ) → map length (map (generated_block rows) (range_with_len a n)) ≡ map (block_length rows) (range_with_len a n)
lengths-of rows a zero = refl
lengths-of rows a (suc n) =
    ap (λ (k : ℕ). k ∷ map length (map (generated_block rows) (range_with_len (a + 1) n)))
    (length-map (rows_in rows a) generated_row ∙ length-range_with_len (64 * a) (block_length rows a))
    ∙ ap (λ (ks : List ℕ). block_length rows a ∷ ks) (lengths-of rows (a + 1) n)

pub generated_blocks_fit : GeneratedBlocksFit
generated_blocks_fit rows h = record {
  long = lengths-of rows 0 ((rows + 63) / 64);
  fitting =
      all-of-range (λ xs. list_all (λ row. val_fits row (row_type generated_columns)) xs) (generated_block rows) 0 ((rows + 63) / 64)
      (λ block within.
      all-of-range (λ row. val_fits row (row_type generated_columns)) generated_row (64 * block) (block_length rows block)
      (λ row here. let end = block-within rows block within in row-fits row (omega arith)));
}
