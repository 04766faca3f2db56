-- The table of rows: its blocks are as long and of the types as its zones say, and its rows are what the cells are.
use Rattle.std.proofs.Common.{◌≡◌, ◌∙◌, refl, ap, ℕ, suc, ◌+◌, true, nat_eq, List, [], ◌∷◌, map, length, eq-eqb}
use Rattle.std.specs.List.{list_all}
use Rattle.std.proofs.lemmas.Bool.{and_from}
use Rattle.std.proofs.lemmas.List.{length-map}
use Rattle.vx_dtype.specs.Types.{Bytes, Ty, Fields, no_fields, field}
use Rattle.vx_dtype.specs.TypeRules.{field_names}
use Rattle.vx_dtype.specs.StructTypes.{field_types}
use Rattle.vx_dtype.specs.Equal.{ty_eq}
use Rattle.vx_dtype.specs.EqualLaws.{ty_eq-own}
use Rattle.vx_dtype.specs.Values.{struct_val, Members, no_members, member}
use Rattle.vx_dtype.proofs.FieldsFrom.{length-field_types}
use Rattle.vx_column.specs.Columns.{Column, zip_rows}
use Rattle.vx_tables.specs.Blocks.{block_long, blocks_long, block_typed, block_members, rows_of_columns}
use Rattle.vx_laws_csv.specs.Cells.{cell_val, cell_at}
use Rattle.vx_laws_csv.specs.CsvTables.{cut, row_members, row_val, column_of, columns_from}
use Rattle.vx_laws_csv.specs.CsvLaws.{TablesHoldTheCells, TablesAreWhole}
use Rattle.vx_laws_csv.proofs.Lists.{map-map, zip-map, same-throughout}

-- ---- the rows

members-of : (null : Bytes) (i : ℕ) (fs : Fields) (rows : List (List Bytes)) → block_members fs (length rows) (columns_from null i (field_types fs) rows) ≡ map (row_members null i fs) rows
members-of null i no_fields rows = same-throughout no_members rows
members-of null i (field f t fs) rows =
    ap (λ (ms : List Members). zip_rows (member f) (map (λ r. cell_val null t (cell_at i r)) rows) ms) (members-of null (i + 1) fs rows)
    ∙ zip-map (member f) (λ (r : List Bytes). cell_val null t (cell_at i r)) (row_members null (i + 1) fs) rows

rows-of : (null : Bytes) (fs : Fields) (rows : List (List Bytes)) → rows_of_columns fs (length rows) (columns_from null 0 (field_types fs) rows) ≡ map (row_val null fs) rows
rows-of null fs rows = ap (map struct_val) (members-of null 0 fs rows) ∙ map-map struct_val (row_members null 0 fs) rows

blocks-of : (null : Bytes) (fs : Fields) (parts : List (List (List Bytes)))
    → zip_rows (rows_of_columns fs) (map length parts) (map (columns_from null 0 (field_types fs)) parts) ≡ map (map (row_val null fs)) parts
blocks-of null fs [] = refl
blocks-of null fs (part ∷ parts) = λ j. rows-of null fs part j ∷ blocks-of null fs parts j

pub tables_hold_the_cells : TablesHoldTheCells
tables_hold_the_cells null size fs rows = record { columns = refl; blocks = blocks-of null fs (cut size rows) }

-- ---- lengths and types

width : (null : Bytes) (i : ℕ) (ts : List Ty) (rows : List (List Bytes)) → length (columns_from null i ts rows) ≡ length ts
width null i [] rows = refl
width null i (t ∷ ts) rows = ap suc (width null (i + 1) ts rows)

heights : (null : Bytes) (i : ℕ) (ts : List Ty) (rows : List (List Bytes)) → list_all (λ (c : Column). nat_eq (length c.rows) (length rows)) (columns_from null i ts rows) ≡ true
heights null i [] rows = refl
heights null i (t ∷ ts) rows =
    and_from (nat_eq (length (column_of null i t rows).rows) (length rows))
    (list_all (λ (c : Column). nat_eq (length c.rows) (length rows)) (columns_from null (i + 1) ts rows))
    (eq-eqb (length (column_of null i t rows).rows) (length rows) (length-map rows (λ (r : List Bytes). cell_val null t (cell_at i r)))) (heights null (i + 1) ts rows)

block-is-long : (null : Bytes) (fs : Fields) (rows : List (List Bytes)) → block_long (length (field_names fs)) (length rows) (columns_from null 0 (field_types fs) rows) ≡ true
block-is-long null fs rows =
    let cs = columns_from null 0 (field_types fs) rows in
    and_from (nat_eq (length cs) (length (field_names fs))) (list_all (λ (c : Column). nat_eq (length c.rows) (length rows)) cs)
    (eq-eqb (length cs) (length (field_names fs)) (width null 0 (field_types fs) rows ∙ length-field_types fs)) (heights null 0 (field_types fs) rows)

blocks-are-long : (null : Bytes) (fs : Fields) (parts : List (List (List Bytes)))
    → blocks_long (length (field_names fs)) (map length parts) (map (columns_from null 0 (field_types fs)) parts) ≡ true
blocks-are-long null fs [] = refl
blocks-are-long null fs (part ∷ parts) =
    and_from (block_long (length (field_names fs)) (length part) (columns_from null 0 (field_types fs) part))
    (blocks_long (length (field_names fs)) (map length parts) (map (columns_from null 0 (field_types fs)) parts)) (block-is-long null fs part) (blocks-are-long null fs parts)

block-is-typed : (null : Bytes) (i : ℕ) (ts : List Ty) (rows : List (List Bytes)) → block_typed ts (columns_from null i ts rows) ≡ true
block-is-typed null i [] rows = refl
block-is-typed null i (t ∷ ts) rows =
    and_from (ty_eq t t) (block_typed ts (columns_from null (i + 1) ts rows)) (ty_eq-own t) (block-is-typed null (i + 1) ts rows)

blocks-are-typed : (null : Bytes) (ts : List Ty) (parts : List (List (List Bytes))) → list_all (block_typed ts) (map (columns_from null 0 ts) parts) ≡ true
blocks-are-typed null ts [] = refl
blocks-are-typed null ts (part ∷ parts) =
    and_from (block_typed ts (columns_from null 0 ts part)) (list_all (block_typed ts) (map (columns_from null 0 ts) parts)) (block-is-typed null 0 ts part) (blocks-are-typed null ts parts)

pub tables_are_whole : TablesAreWhole
tables_are_whole null size fs rows = record { lengths = blocks-are-long null fs (cut size rows); types = blocks-are-typed null (field_types fs) (cut size rows) }
