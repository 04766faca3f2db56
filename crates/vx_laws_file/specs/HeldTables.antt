-- The table that a block file holds: each column has the values of its range, and fillers where that is damaged.
use Rattle.std.specs.Prelude.{ℕ, zero, suc, pos, false, List, [], ◌∷◌, replicate, Option, Some, None, unwrap_or}
use Rattle.vx_dtype.specs.declared.Nullability.{Nullability}
use Rattle.vx_dtype.specs.declared.Nullability.TheVariants.{NonNullable, Nullable}
use Rattle.vx_dtype.specs.Types.{Bytes, Ty, bool_ty, int_ty, text_ty, list_ty, struct_ty, Fields, no_fields, field}
use Rattle.vx_dtype.specs.Values.{Val, null_val, bool_val, int_val, text_val, list_val, struct_val, no_vals, Members, no_members, member, valued}
use Rattle.vx_wire_bytes.specs.Reading.{◌>>=◌}
use Rattle.vx_wire_bytes.specs.ValueReading.{value_at}
use Rattle.vx_column.specs.Columns.{Column, column, zip_rows}
use Rattle.vx_semantics.specs.Tables.{Table}
use Rattle.vx_tables.specs.Blocks.{table_of_blocks}
use Rattle.vx_laws_file.specs.FileForms.{FileContent}

-- null where a type has it, else this value
abbrev pub null_or : Nullability → Val → Val
null_or NonNullable v = v
null_or Nullable v = null_val

abbrev mutual
  -- what stands for a value that isn't known: null where the type has it, else false, 0, the empty text, the empty list, or the struct of such values
  pub filler : Ty → Val
  filler (bool_ty n) = null_or n (bool_val false)
  filler (int_ty p n) = null_or n (int_val p (pos 0))
  filler (text_ty n) = null_or n (text_val [])
  filler (list_ty e n) = null_or n (list_val no_vals)
  filler (struct_ty fs n) = null_or n (struct_val (fillers fs))

  -- such a value for each field
  pub fillers : Fields → Members
  fillers no_fields = no_members
  fillers (field f t fs) = member f (filler t) (fillers fs)

-- so many values of a type at the front of bytes, and what is left behind them
abbrev pub values_at : Ty → ℕ → Bytes → Option (List Val × Bytes)
values_at t zero bytes = Some ([], bytes)
values_at t (suc n) bytes = value_at t bytes >>= λ x. values_at t n x.1 >>= λ vs. Some (valued x.0 t ∷ vs.0, vs.1)

-- the values, where nothing is left behind them
abbrev pub with_none_behind : List Val → Bytes → Option (List Val)
with_none_behind values [] = Some values
with_none_behind values (b ∷ rest) = None

-- the values of a type that a range is, so many; none where it isn't
unfoldable pub range_values : Ty → ℕ → Bytes → Option (List Val)
range_values t n range = values_at t n range >>= λ vs. with_none_behind vs.0 vs.1

-- the values of a range, and fillers where it is damaged
abbrev pub held_values : Ty → ℕ → Bytes → List Val
held_values t n range = unwrap_or (range_values t n range) (replicate n (filler t))

-- the columns of a block of so many rows, by their ranges
abbrev pub held_block : Fields → ℕ → List Bytes → List Column
held_block (field f t fs) n (r ∷ rs) = column t (held_values t n r) ∷ held_block fs n rs
held_block _ n _ = []

-- the blocks that a file holds
abbrev pub held_blocks : FileContent → List (List Column)
held_blocks content = zip_rows (held_block content.zones.columns) content.zones.lengths content.ranges

-- the table that a file holds
abbrev pub held_table : FileContent → Table
held_table content = table_of_blocks content.zones (held_blocks content)
