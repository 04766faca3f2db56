-- Blocks of columns as a table: when they agree with its zones, and its rows.
use Rattle.std.specs.Prelude.{ℕ, nat_eq, Bool, true, false, cond, not, ◌&&◌, List, [], ◌∷◌, map, length, replicate, Option, Some, None}
use Rattle.std.specs.List.{list_all}
use Rattle.std.specs.Str.{bytes_eq}
use Rattle.std.specs.declared.vec.Vec.{Vec}
use Rattle.std.specs.declared.alloc.Global.{Global}
use Rattle.vx_dtype.specs.Types.{Bytes, Ty, Fields, field}
use Rattle.vx_dtype.specs.TypeRules.{field_names}
use Rattle.vx_dtype.specs.StructTypes.{field_types}
use Rattle.vx_dtype.specs.Equal.{ty_eq}
use Rattle.vx_dtype.specs.Values.{Val, struct_val, Members, no_members, member}
use Rattle.vx_column.specs.Columns.{Column, zip_rows, rows_fit}
use Rattle.vx_semantics.specs.Tables.{Table, Zones}
use Rattle.vx_tables.specs.declared.errors.TableError.{TableError}
use Rattle.vx_tables.specs.declared.errors.TableError.TheVariants as errors

-- the columns of a block
abbrev pub block_view : Vec Column Global → List Column
block_view block = block.items

-- whether a block has so many columns, each of so many rows
abbrev pub block_long : ℕ → ℕ → List Column → Bool
block_long width n cs = nat_eq (length cs) width && list_all (λ c. nat_eq (length c.rows) n) cs

-- whether there are as many blocks as numbers of rows, each with so many columns of so many rows
abbrev pub blocks_long : ℕ → List ℕ → List (List Column) → Bool
blocks_long width [] [] = true
blocks_long width (n ∷ ns) (cs ∷ blocks) = block_long width n cs && blocks_long width ns blocks
blocks_long width _ _ = false

-- whether a type is this one, where there is one
abbrev pub is_type : Option Ty → Ty → Bool
is_type None u = false
is_type (Some t) u = ty_eq u t

-- whether each column is of the type at its place
abbrev pub block_typed : List Ty → List Column → Bool
block_typed ts [] = true
block_typed [] (c ∷ cs) = false
block_typed (t ∷ ts) (c ∷ cs) = ty_eq c.ty t && block_typed ts cs

-- whether each column holds values of its type
abbrev pub block_fits : List Column → Bool
block_fits cs = list_all (λ c. rows_fit c.ty c.rows) cs

-- whether the number of blocks, of each block's columns and of each column's rows are those of the zones
abbrev pub have_lengths : Zones → List (List Column) → Bool
have_lengths zones blocks = blocks_long (length (field_names zones.columns)) zones.lengths blocks

-- whether each column of each block is of the zones' type
abbrev pub have_types : Zones → List (List Column) → Bool
have_types zones blocks = list_all (block_typed (field_types zones.columns)) blocks

-- why blocks of columns are no table with these zones: first a number that differs, then a type
abbrev pub table_refusal : Zones → List (List Column) → Option TableError
table_refusal zones blocks =
    cond (not (have_lengths zones blocks)) (Some errors.WrongLength)
    (cond (not (have_types zones blocks)) (Some errors.WrongType) None)

-- the members of each of the rows of a block of so many rows: the value of the first column before those of the rest
abbrev pub block_members : Fields → ℕ → List Column → List Members
block_members (field f t fs) n (c ∷ cs) = zip_rows (member f) c.rows (block_members fs n cs)
block_members _ n cs = replicate n no_members

-- the rows of a block: structs of the columns
abbrev pub rows_of_columns : Fields → ℕ → List Column → List Val
rows_of_columns fs n cs = map struct_val (block_members fs n cs)

-- the table of blocks of columns
abbrev pub table_of_blocks : Zones → List (List Column) → Table
table_of_blocks zones blocks = record { columns = zones.columns; blocks = zip_rows (rows_of_columns zones.columns) zones.lengths blocks }

-- the column of the first field of this name
abbrev pub column_named : Bytes → Fields → List Column → Option Column
column_named f (field g t fs) (c ∷ cs) = cond (bytes_eq f g) (Some c) (column_named f fs cs)
column_named f _ _ = None
