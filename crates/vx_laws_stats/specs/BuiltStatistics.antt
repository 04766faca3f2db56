-- The statistics that the rows of a table have: of each plain field its least and its greatest value and its number of nulls, block by block.
use Rattle.std.specs.Prelude.{ℕ, pos, cond, List, [], ◌∷◌, ◌++◌, map, length}
use Rattle.std.specs.List.{filter, flat_map}
use Rattle.vx_dtype.specs.declared.PType.TheVariants.{U64}
use Rattle.vx_dtype.specs.declared.Nullability.TheVariants.{Nullable}
use Rattle.vx_dtype.specs.declared.CompareOperator.{CompareOperator}
use Rattle.vx_dtype.specs.declared.Stat.{Stat}
use Rattle.vx_dtype.specs.declared.Stat.TheVariants.{Min, Max, NaNCount, NullCount}
use Rattle.vx_dtype.specs.Types.{Bytes, Ty, bool_ty, int_ty, text_ty, list_ty, struct_ty, Fields, no_fields, field}
use Rattle.vx_dtype.specs.TypeRules.{with_nullability}
use Rattle.vx_dtype.specs.Values.{Raw, raw_null, raw_bool, raw_int, raw_text, Val, null_val, bool_val, int_val, text_val, Typed}
use Rattle.vx_dtype.specs.Logic.{is_null_val}
use Rattle.vx_dtype.specs.Order.{compares}
use Rattle.vx_semantics.specs.Paths.{path_value}
use Rattle.vx_semantics.specs.Tables.{Table, ZoneStat, Zones}

-- a plain field: its path, and its type
pub record Leaf : Type 0 where
  pub path : List Bytes
  pub ty : Ty

-- a plain field that is its own whole, and a plain field below the field of this name
abbrev pub whole : Ty → Leaf
whole t = record { path = []; ty = t }

abbrev pub under : Bytes → Leaf → Leaf
under f l = record { path = f ∷ l.path; ty = l.ty }

abbrev mutual
  -- the plain fields of a type: a plain type is one, a struct has those of its fields in order, a list has none
  pub leaves_of : Ty → List Leaf
  leaves_of (bool_ty n) = whole (bool_ty n) ∷ []
  leaves_of (int_ty p n) = whole (int_ty p n) ∷ []
  leaves_of (text_ty n) = whole (text_ty n) ∷ []
  leaves_of (list_ty e n) = []
  leaves_of (struct_ty fs n) = leaves_below fs

  -- the plain fields of these fields, in order, each with its field's name before its path
  pub leaves_below : Fields → List Leaf
  leaves_below no_fields = []
  leaves_below (field f t fs) = map (under f) (leaves_of t) ++ leaves_below fs

-- the paths of a table's statistics: those of its plain fields, in order
abbrev pub stat_paths : Fields → List (List Bytes)
stat_paths columns = map (λ l. l.path) (leaves_below columns)

-- the one of two values that stands so to the other; where one is null, the other
abbrev pub first_by : CompareOperator → Val → Val → Val
first_by op null_val w = w
first_by op v null_val = v
first_by op v w = cond (compares op v w) v w

-- the value that stands so to all others that are not null; null where there is none
abbrev pub first_of : CompareOperator → List Val → Val
first_of op [] = null_val
first_of op (v ∷ vs) = first_by op v (first_of op vs)

-- the least and the greatest value that is not null, null where there is none
abbrev pub least_of : List Val → Val
least_of vs = first_of CompareOperator.Lte vs

abbrev pub greatest_of : List Val → Val
greatest_of vs = first_of CompareOperator.Gte vs

-- the values of a path at rows
abbrev pub values_at : List Bytes → List Val → List Val
values_at path rows = map (path_value path) rows

-- how many of these values are null
abbrev pub null_count : List Val → ℕ
null_count vs = length (filter is_null_val vs)

-- what a statistic is for these values of a block; nothing is known of what is no number
abbrev pub built_value : Stat → List Val → Val
built_value Min vs = least_of vs
built_value Max vs = greatest_of vs
built_value NullCount vs = int_val U64 (pos (null_count vs))
built_value NaNCount vs = null_val

-- the type of the values of a statistic of this type: its own for a bound, that of counts for the number of nulls; and null
abbrev pub built_type : Stat → Ty → Ty
built_type NullCount t = int_ty U64 Nullable
built_type _ t = with_nullability t Nullable

-- the raw value of a plain value
abbrev pub raw_of : Val → Raw
raw_of (bool_val b) = raw_bool b
raw_of (int_val p i) = raw_int i
raw_of (text_val s) = raw_text s
raw_of _ = raw_null

-- a statistic for these values of a block, which are of this type
abbrev pub built_scalar : Stat → Ty → List Val → Typed
built_scalar stat t vs = record { ty = built_type stat t; value = raw_of (built_value stat vs) }

-- a statistic of a plain field, whose values in each block are these
abbrev pub built_statistic : Stat → Leaf → List (List Val) → ZoneStat
built_statistic stat l blocks = record { path = l.path; stat = stat; values = map (built_scalar stat l.ty) blocks }

-- the three statistics of a plain field
abbrev pub statistics_of : Leaf → List (List Val) → List ZoneStat
statistics_of l blocks = built_statistic Min l blocks ∷ built_statistic Max l blocks ∷ built_statistic NullCount l blocks ∷ []

-- the statistics of a plain field at the rows of blocks
abbrev pub statistics_at : List (List Val) → Leaf → List ZoneStat
statistics_at blocks l = statistics_of l (map (values_at l.path) blocks)

-- the statistics of a table's rows: those of each of its plain fields, in order
abbrev pub built_stats : Table → List ZoneStat
built_stats table = flat_map (statistics_at table.blocks) (leaves_below table.columns)

-- the table's zones with these statistics
abbrev pub built_zones : Table → Zones
built_zones table = record { columns = table.columns; lengths = map length table.blocks; stats = built_stats table }
