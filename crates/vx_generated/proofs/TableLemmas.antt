-- The blocks of columns are the table.
use Rattle.std.proofs.Common.{◌≡◌, ◌∙◌, ap, ap₂, refl, ℕ, zero, suc, ◌+◌, ◌*◌, Bool, true, cond, not, nat_eq, List, [], ◌∷◌, map, length, replicate, Some, None, eq-eqb}
use Rattle.std.specs.List.{range_with_len, list_all}
use Rattle.std.proofs.lemmas.Bool.{and_from}
use Rattle.std.proofs.lemmas.List.{length-map}
use Rattle.std.proofs.lemmas.List.FromFn.{length-range_with_len}
use Rattle.vx_dtype.specs.declared.PType.TheVariants.{I32, I64}
use Rattle.vx_dtype.specs.StructTypes.{field_types}
use Rattle.vx_dtype.specs.Equal.{ty_eq}
use Rattle.vx_dtype.specs.Values.{Val, struct_val, no_members, member}
use Rattle.vx_semantics.specs.Tables.{Table}
use Rattle.vx_column.specs.Columns.{zip_rows}
use Rattle.vx_tables.specs.Blocks.{block_long, block_typed, have_types, table_refusal, blocks_long, rows_of_columns, table_of_blocks}
use Rattle.vx_tables.specs.declared.errors.TableError.TheVariants as errors
use Rattle.vx_laws_generated.specs.GeneratedTable.{GeneratedColumn, id_column, v_column, name_of, number_at, number_val, integer_of, rows_in, numbers_in, block_numbers, block_length, generated_row, generated_block, generated_columns, generated_table, generated_zones}
use Rattle.vx_generated.specs.GeneratedBlocks.{column_in, columns_in, generated_blocks}
use Rattle.vx_generated.specs.BlockLaws.{GeneratedBlocksAreTheTable}

-- ---- rows

-- the columns side by side are the rows
rows-side_by_side : (a n : ℕ)
    → map struct_val
    (zip_rows (member (name_of id_column)) (map (number_val I64) (map (number_at id_column) (range_with_len a n)))
    (zip_rows (member (name_of v_column)) (map (number_val I32) (map (number_at v_column) (range_with_len a n))) (replicate n no_members)))
    ≡ map generated_row (range_with_len a n)
rows-side_by_side a zero = refl
rows-side_by_side a (suc n) = ap (λ (rows : List Val). generated_row a ∷ rows) (rows-side_by_side (a + 1) n)

blocks-side_by_side : (rows : ℕ) (bs : List ℕ)
    → zip_rows (rows_of_columns generated_columns) (map (block_length rows) bs) (map (columns_in rows) bs) ≡ map (generated_block rows) bs
blocks-side_by_side rows [] = refl
blocks-side_by_side rows (b ∷ bs) =
    ap₂ (λ (x : List Val) (xs : List (List Val)). x ∷ xs) (rows-side_by_side (64 * b) (block_length rows b)) (blocks-side_by_side rows bs)

-- ---- lengths and types

column-long : (c : GeneratedColumn) (rows block : ℕ) → nat_eq (length (column_in c rows block).rows) (block_length rows block) ≡ true
column-long c rows block =
    eq-eqb (length (column_in c rows block).rows) (block_length rows block)
    (length-map (numbers_in c rows block) (number_val (integer_of c)) ∙ length-map (rows_in rows block) (number_at c)
    ∙ length-range_with_len (64 * block) (block_length rows block))

blocks-long : (rows : ℕ) (bs : List ℕ) → blocks_long 2 (map (block_length rows) bs) (map (columns_in rows) bs) ≡ true
blocks-long rows [] = refl
blocks-long rows (b ∷ bs) =
    and_from (block_long 2 (block_length rows b) (columns_in rows b)) (blocks_long 2 (map (block_length rows) bs) (map (columns_in rows) bs))
    (and_from _ _ (column-long id_column rows b) (and_from _ _ (column-long v_column rows b) refl)) (blocks-long rows bs)

block-typed : (rows block : ℕ) → block_typed (field_types generated_columns) (columns_in rows block) ≡ true
unfolding ty_eq
block-typed rows block = refl

blocks-typed : (rows : ℕ) (bs : List ℕ) → list_all (block_typed (field_types generated_columns)) (map (columns_in rows) bs) ≡ true
blocks-typed rows [] = refl
blocks-typed rows (b ∷ bs) =
    and_from (block_typed (field_types generated_columns) (columns_in rows b)) (list_all (block_typed (field_types generated_columns)) (map (columns_in rows) bs))
    (block-typed rows b) (blocks-typed rows bs)

pub blocks-agree : (rows : ℕ) → table_refusal (generated_zones rows) (generated_blocks rows) ≡ None
blocks-agree rows =
    ap
    (λ (b : Bool). cond (not b) (Some errors.WrongLength) (cond (not (have_types (generated_zones rows) (generated_blocks rows))) (Some errors.WrongType) None))
    (blocks-long rows (block_numbers rows))
    ∙ ap (λ (b : Bool). cond (not b) (Some errors.WrongType) None) (blocks-typed rows (block_numbers rows))

-- the table of some blocks
abbrev table_with : List (List Val) → Table
table_with blocks = record { columns = generated_columns; blocks = blocks }

pub blocks-are_table : (rows : ℕ) → table_of_blocks (generated_zones rows) (generated_blocks rows) ≡ generated_table rows
blocks-are_table rows = ap table_with (blocks-side_by_side rows (block_numbers rows))

pub generated_blocks_are_the_table : GeneratedBlocksAreTheTable
generated_blocks_are_the_table rows = record { agree = blocks-agree rows; table = blocks-are_table rows }
