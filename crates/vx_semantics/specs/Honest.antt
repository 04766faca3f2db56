-- When statistics are honest: each bound of a block bounds its values, each count of nulls is at least their number.
use Rattle.std.specs.Prelude.{ℕ, pos, Bool, true, ◌&&◌, ◌||◌, List, [], ◌∷◌, length, IsTrue}
use Rattle.std.specs.List.{list_all, filter}
use Rattle.vx_dtype.specs.declared.PType.TheVariants.{U64}
use Rattle.vx_dtype.specs.declared.CompareOperator.{CompareOperator}
use Rattle.vx_dtype.specs.declared.Stat.{Stat}
use Rattle.vx_dtype.specs.declared.Stat.TheVariants.{Min, Max, NaNCount, NullCount}
use Rattle.vx_dtype.specs.Types.{Bytes}
use Rattle.vx_dtype.specs.Values.{Val, int_val, Typed, value_of}
use Rattle.vx_dtype.specs.Logic.{is_null_val}
use Rattle.vx_dtype.specs.Order.{compares}
use Rattle.vx_semantics.specs.Paths.{path_value}
use Rattle.vx_semantics.specs.Tables.{Table, Zones}

-- whether a bound is null, or stands so to every value of the path that is not null
abbrev pub bounds_all : CompareOperator → Val → List Bytes → List Val → Bool
bounds_all op bound path rows = is_null_val bound || list_all (λ row. is_null_val (path_value path row) || compares op bound (path_value path row)) rows

-- the number of rows at which the path is null
abbrev pub null_rows : List Bytes → List Val → ℕ
null_rows path rows = length (filter (λ row. is_null_val (path_value path row)) rows)

-- whether a count is null or at least the number of rows at which the path is null
abbrev pub counts_nulls : Val → List Bytes → List Val → Bool
counts_nulls count path rows = is_null_val count || compares CompareOperator.Gte count (int_val U64 (pos (null_rows path rows)))

-- whether the value of a statistic is honest for the rows of a block
abbrev pub honest_value : Stat → List Bytes → Val → List Val → Bool
honest_value Min path v rows = bounds_all CompareOperator.Lte v path rows
honest_value Max path v rows = bounds_all CompareOperator.Gte v path rows
honest_value NaNCount path v rows = true
honest_value NullCount path v rows = counts_nulls v path rows

-- whether the values of a statistic are honest, block by block
abbrev pub honest_values : Stat → List Bytes → List Typed → List (List Val) → Bool
honest_values stat path [] blocks = true
honest_values stat path (s ∷ ss) [] = true
honest_values stat path (s ∷ ss) (rows ∷ blocks) = honest_value stat path (value_of s) rows && honest_values stat path ss blocks

-- the statistics are honest for the table
abbrev pub IsHonest : Zones → Table → Type 0
IsHonest zones table = IsTrue (list_all (λ z. honest_values z.stat z.path z.values table.blocks) zones.stats)
