-- Blocks of columns cut anew: into blocks of so many rows, one behind another, the last one of what is left.
use Rattle.std.specs.Prelude.{◌≡◌, ℕ, ◌-◌, ◌+◌, ◌*◌, ◌/◌, ◌%◌, ◌<◌, min, nat_eq, Bool, List, [], ◌∷◌, map, take, drop, length, get_or}
use Rattle.std.specs.List.{flat_map, list_all, range_with_len, sum}
use Rattle.vx_dtype.specs.Types.{Ty, bool_ty}
use Rattle.vx_dtype.specs.declared.Nullability.TheVariants.{NonNullable}
use Rattle.vx_dtype.specs.StructTypes.{field_types}
use Rattle.vx_dtype.specs.Values.{Val}
use Rattle.vx_column.specs.Columns.{Column, column}
use Rattle.vx_semantics.specs.Tables.{Zones}

-- the rows of a block, by its number from 0 on, of rows that are cut into blocks of n rows
abbrev pub rows_cut : ℕ → List Val → ℕ → List Val
rows_cut n rows block = take n (drop (block * n) rows)

-- how many blocks of n rows so many rows are, the last with what is left
abbrev pub blocks_cut : ℕ → ℕ → ℕ
blocks_cut n rows = rows / n + min 1 (rows % n)

-- how many rows a block has
abbrev pub length_cut : ℕ → ℕ → ℕ → ℕ
length_cut n rows block = min n (rows - block * n)

abbrev pub lengths_cut : ℕ → ℕ → List ℕ
lengths_cut n rows = map (length_cut n rows) (range_with_len 0 (blocks_cut n rows))

-- the column at a place of a block, which has one there
abbrev pub column_there : ℕ → List Column → Column
column_there place cs = get_or cs place (column (bool_ty NonNullable) [])

-- a block has a column of a type at a place
abbrev pub HasColumn : ℕ → Ty → List Column → Type 0
HasColumn place t cs = (place < length cs) × ((column_there place cs).ty ≡ t)

-- the column of a type at a place of all blocks: the values of each block's behind those of the block before
abbrev pub joined_column : List (List Column) → ℕ → Ty → Column
joined_column blocks place t = column t (flat_map (λ cs. (column_there place cs).rows) blocks)

-- the columns of these types, from a place on
abbrev pub joined_from : List (List Column) → ℕ → List Ty → List Column
joined_from blocks place [] = []
joined_from blocks place (t ∷ ts) = joined_column blocks place t ∷ joined_from blocks (place + 1) ts

-- the columns of a table, each with its values in all blocks
abbrev pub joined_columns : Zones → List (List Column) → List Column
joined_columns zones blocks = joined_from blocks 0 (field_types zones.columns)

-- whether each column has so many rows
abbrev pub all_have_rows : ℕ → List Column → Bool
all_have_rows n cs = list_all (λ c. nat_eq (length c.rows) n) cs

-- a block of columns that are cut, and all of them
abbrev pub block_cut : ℕ → List Column → ℕ → List Column
block_cut n columns block = map (λ c. column c.ty (rows_cut n c.rows block)) columns

abbrev pub columns_cut : ℕ → ℕ → List Column → List (List Column)
columns_cut n rows columns = map (block_cut n columns) (range_with_len 0 (blocks_cut n rows))

-- zones of the same columns with blocks of these lengths, and no statistics
abbrev pub bare_zones : Zones → List ℕ → Zones
bare_zones zones lengths = record { columns = zones.columns; lengths = lengths; stats = [] }

-- the zones and the blocks of a table that is cut into blocks of n rows
abbrev pub zones_cut : ℕ → Zones → Zones
zones_cut n zones = bare_zones zones (lengths_cut n (sum zones.lengths))

abbrev pub blocks_anew : ℕ → Zones → List (List Column) → List (List Column)
blocks_anew n zones blocks = columns_cut n (sum zones.lengths) (joined_columns zones blocks)
