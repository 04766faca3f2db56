-- The generated table: two columns of numbers in blocks of 64 rows, the least and the greatest number of each block, and the filter and the projection
-- by which it is scanned.
use Rattle.std.specs.Prelude.{ℕ, ◌+◌, ◌-◌, ◌*◌, ◌/◌, ◌%◌, min, max, nat_eq, pos, cond, List, [], ◌∷◌, map, codes, Option, Some, None}
use Rattle.std.specs.List.{range_with_len}
use Rattle.vx_dtype.specs.declared.PType.{PType}
use Rattle.vx_dtype.specs.declared.PType.TheVariants.{I32, I64}
use Rattle.vx_dtype.specs.declared.Nullability.{Nullability}
use Rattle.vx_dtype.specs.declared.Nullability.TheVariants.{NonNullable, Nullable}
use Rattle.vx_dtype.specs.declared.Stat.{Stat}
use Rattle.vx_dtype.specs.declared.Stat.TheVariants.{Min, Max, NaNCount, NullCount}
use Rattle.vx_dtype.specs.Types.{Bytes, int_ty, Fields, no_fields, field}
use Rattle.vx_dtype.specs.Values.{raw_null, raw_int, Val, null_val, int_val, struct_val, no_members, member, Typed}
use Rattle.vx_expr.specs.declared.Operator.{Operator}
use Rattle.vx_expr.specs.Trees.{Tree, root, literal, get_item, binary}
use Rattle.vx_semantics.specs.Tables.{Table, ZoneStat, Zones}

-- the two columns
pub data GeneratedColumn : Type 0 where
  id_column : GeneratedColumn
  v_column : GeneratedColumn

-- the name of a column, its integer type, and whether it can be null
abbrev pub name_of : GeneratedColumn → Bytes
name_of id_column = codes "id"
name_of v_column = codes "v"

abbrev pub integer_of : GeneratedColumn → PType
integer_of id_column = I64
integer_of v_column = I32

abbrev pub nullability_of : GeneratedColumn → Nullability
nullability_of id_column = NonNullable
nullability_of v_column = Nullable

-- the number of a column at a row, none where it is null: `id` counts the rows from 0, `v` goes from 0 to 99 and is null at each tenth row
abbrev pub number_at : GeneratedColumn → ℕ → Option ℕ
number_at id_column row = Some row
number_at v_column row = cond (nat_eq (row % 10) 9) None (Some ((37 * row + 11) % 100))

-- a number as a value of an integer type, null where there is none
abbrev pub number_val : PType → Option ℕ → Val
number_val p None = null_val
number_val p (Some n) = int_val p (pos n)

-- the value of a column at a row, and the row
abbrev pub value_at : GeneratedColumn → ℕ → Val
value_at c row = number_val (integer_of c) (number_at c row)

abbrev pub generated_row : ℕ → Val
generated_row row = struct_val (member (name_of id_column) (value_at id_column row) (member (name_of v_column) (value_at v_column row) no_members))

-- the fields of the table
abbrev pub generated_columns : Fields
generated_columns =
    field (name_of id_column) (int_ty (integer_of id_column) (nullability_of id_column))
    (field (name_of v_column) (int_ty (integer_of v_column) (nullability_of v_column)) no_fields)

-- the blocks of a table of so many rows, by their numbers: as many as it takes for 64 rows each
abbrev pub block_numbers : ℕ → List ℕ
block_numbers rows = range_with_len 0 ((rows + 63) / 64)

-- how many rows a block has, and which: 64, or what is left in the last one
abbrev pub block_length : ℕ → ℕ → ℕ
block_length rows block = min 64 (rows - 64 * block)

abbrev pub rows_in : ℕ → ℕ → List ℕ
rows_in rows block = range_with_len (64 * block) (block_length rows block)

-- the table of so many rows
abbrev pub generated_block : ℕ → ℕ → List Val
generated_block rows block = map generated_row (rows_in rows block)

abbrev pub generated_table : ℕ → Table
generated_table rows = record { columns = generated_columns; blocks = map (generated_block rows) (block_numbers rows) }

-- the number that a rule chooses among the numbers that there are, none where there is none; so the least and the greatest
abbrev pub chosen : (ℕ → ℕ → ℕ) → Option ℕ → Option ℕ → Option ℕ
chosen rule None other = other
chosen rule (Some n) None = Some n
chosen rule (Some n) (Some m) = Some (rule n m)

abbrev pub chosen_among : (ℕ → ℕ → ℕ) → List (Option ℕ) → Option ℕ
chosen_among rule [] = None
chosen_among rule (n ∷ ns) = chosen rule n (chosen_among rule ns)

abbrev pub least_of : List (Option ℕ) → Option ℕ
least_of = chosen_among min

abbrev pub greatest_of : List (Option ℕ) → Option ℕ
greatest_of = chosen_among max

-- the numbers of a column in a block, and its bound of a kind there
abbrev pub numbers_in : GeneratedColumn → ℕ → ℕ → List (Option ℕ)
numbers_in c rows block = map (number_at c) (rows_in rows block)

abbrev pub bound_of : Stat → List (Option ℕ) → Option ℕ
bound_of Min numbers = least_of numbers
bound_of Max numbers = greatest_of numbers
bound_of NaNCount numbers = None
bound_of NullCount numbers = None

-- a bound as a statistic holds it
abbrev pub bound_value : PType → Option ℕ → Typed
bound_value p None = record { ty = int_ty p Nullable; value = raw_null }
bound_value p (Some n) = record { ty = int_ty p Nullable; value = raw_int (pos n) }

abbrev pub bound_in : GeneratedColumn → Stat → ℕ → ℕ → Typed
bound_in c stat rows block = bound_value (integer_of c) (bound_of stat (numbers_in c rows block))

abbrev pub bounds_of : ℕ → GeneratedColumn → Stat → ZoneStat
bounds_of rows c stat = record { path = name_of c ∷ []; stat = stat; values = map (bound_in c stat rows) (block_numbers rows) }

-- the statistics of the table: of each column the least and the greatest number in each block
abbrev pub generated_zones : ℕ → Zones
generated_zones rows =
    record {
      columns = generated_columns;
      lengths = map (block_length rows) (block_numbers rows);
      stats = bounds_of rows id_column Min ∷ bounds_of rows id_column Max ∷ bounds_of rows v_column Min ∷ bounds_of rows v_column Max ∷ [];
    }

-- a column as an expression, and a number as a constant of its type
abbrev pub field_expr : GeneratedColumn → Tree
field_expr c = get_item (name_of c) root

abbrev pub constant_of : GeneratedColumn → ℕ → Tree
constant_of c n = literal (record { ty = int_ty (integer_of c) NonNullable; value = raw_int (pos n) })

-- the filter, which holds in the table's second half where `v` is below 50, and the projection
abbrev pub generated_filter : ℕ → Tree
generated_filter rows =
    binary (binary (field_expr id_column) Operator.Gte (constant_of id_column (rows / 2))) Operator.And
    (binary (field_expr v_column) Operator.Lt (constant_of v_column 50))

abbrev pub generated_projection : Tree
generated_projection = field_expr id_column
