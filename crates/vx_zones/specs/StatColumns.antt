-- Statistics as columns of plain types: a value for each block, null where nothing is known.
use Rattle.std.specs.Prelude.{◌≡◌, ℕ, true, List, map, take, drop}
use Rattle.vx_dtype.specs.declared.Stat.{Stat}
use Rattle.vx_dtype.specs.Types.{Bytes, Ty}
use Rattle.vx_dtype.specs.TypeRules.{is_plain}
use Rattle.vx_dtype.specs.Values.{Raw, raw_null, raw_bool, raw_int, raw_text, Val, bool_val, int_val, text_val, Typed, value_of}
use Rattle.vx_semantics.specs.Tables.{ZoneStat}
use Rattle.vx_column.specs.Columns.{Column}

-- the raw value of a plain value
abbrev pub raw_of : Val → Raw
raw_of (bool_val b) = raw_bool b
raw_of (int_val p i) = raw_int i
raw_of (text_val s) = raw_text s
raw_of _ = raw_null

-- a plain value beside a type
abbrev pub typed_at : Ty → Val → Typed
typed_at t v = record { ty = t; value = raw_of v }

-- the values of a column of a plain type, each beside the type
abbrev pub typed_rows : Column → List Typed
typed_rows c = map (typed_at c.ty) c.rows

-- the statistic of a path and a kind whose values are a column's
abbrev pub column_stat : List Bytes → Stat → Column → ZoneStat
column_stat path stat c = record { path = path; stat = stat; values = typed_rows c }

-- a column of a plain type holds the values of a statistic
pub record HoldsValuesOf (z : ZoneStat) (c : Column) : Type 0 where
  pub plain : is_plain c.ty ≡ true
  pub typed : typed_rows c ≡ z.values
  pub rows : c.rows ≡ map value_of z.values

-- a statistic in a run of blocks, which begins at a block and is so long
abbrev pub stat_run : ℕ → ℕ → ZoneStat → ZoneStat
stat_run first count z = record { path = z.path; stat = z.stat; values = take count (drop first z.values) }
