-- What the statistics that the rows of a table have are: honest, and zones.
use Rattle.std.specs.Prelude.{◌≡◌, ℕ, ◌<◌, ◌^◌, true, false, ◌||◌, List, [], ◌∷◌, map, length, Some, None, is_some}
use Rattle.std.specs.List.{AllByRecursion, flat_map, list_all, list_any, slice_get}
use Rattle.vx_dtype.specs.declared.CompareOperator.{CompareOperator}
use Rattle.vx_dtype.specs.declared.Stat.{Stat}
use Rattle.vx_dtype.specs.declared.Stat.TheVariants.{Min, Max, NullCount}
use Rattle.vx_dtype.specs.Types.{Bytes, Ty, Fields}
use Rattle.vx_dtype.specs.TypeRules.{is_plain, no_name_twice}
use Rattle.vx_dtype.specs.Equal.{names_eq}
use Rattle.vx_dtype.specs.Values.{Val}
use Rattle.vx_dtype.specs.Logic.{is_null_val}
use Rattle.vx_dtype.specs.Fits.{val_fits}
use Rattle.vx_dtype.specs.Order.{compares}
use Rattle.vx_expr.specs.Trees.{Tree}
use Rattle.vx_semantics.specs.Meaning.{Slots}
use Rattle.vx_semantics.specs.Tables.{Table, ZoneStat, row_type}
use Rattle.vx_semantics.specs.Honest.{IsHonest}
use Rattle.vx_semantics.specs.Scans.{rows_of, kept_rows_of}
use Rattle.vx_zones.specs.Zoning.{are_shallow, broken_rule, leaf_type, values_fit}
use Rattle.vx_laws_scan.specs.Agreeing.{all_rows_fit}
use Rattle.vx_laws_stats.specs.BuiltStatistics.{built_stats, built_zones, greatest_of, least_of, stat_paths}

-- a table whose rows are values of its type, in which no struct has two fields of one name
pub record IsTable (table : Table) : Type 0 where
  pub names : no_name_twice (row_type table.columns) ≡ true
  pub fit : all_rows_fit (row_type table.columns) table.blocks ≡ true

-- the paths of a table's statistics are those that lead through fields of structs to a plain field
abbrev pub StatPathsArePlain : Type 0
StatPathsArePlain =
    (columns : Fields) (path : List Bytes) → no_name_twice (row_type columns) ≡ true
    → list_any (names_eq path) (stat_paths columns) ≡ is_some (leaf_type columns path)

-- what a statistic is of, and the three statistics of a path
abbrev pub path_and_stat : ZoneStat → List Bytes × Stat
path_and_stat z = (z.path, z.stat)

abbrev pub three_of : List Bytes → List (List Bytes × Stat)
three_of path = (path, Min) ∷ (path, Max) ∷ (path, NullCount) ∷ []

-- each of these paths has three statistics, in order
abbrev pub BuiltStatisticsFollowPaths : Type 0
BuiltStatisticsFollowPaths = (table : Table) → map path_and_stat (built_stats table) ≡ flat_map three_of (stat_paths table.columns)

-- they are honest
abbrev pub BuiltStatisticsAreHonest : Type 0
BuiltStatisticsAreHonest = (table : Table) → IsTable table → IsHonest (built_zones table) table

-- so the rows of the blocks that they keep are all rows of the answer
abbrev pub BuiltStatisticsLoseNoRow : Type 0
BuiltStatisticsLoseNoRow =
    (table : Table) (slots : Slots) (filter_expr projection : Tree) → IsTable table
    → kept_rows_of table (built_zones table) slots filter_expr projection ≡ rows_of table slots filter_expr projection

-- they break no rule of zones, where the columns' types break none
abbrev pub BuiltStatisticsBreakNoRule : Type 0
BuiltStatisticsBreakNoRule =
    (table : Table) → no_name_twice (row_type table.columns) ≡ true → are_shallow table.columns ≡ true → broken_rule (built_zones table) ≡ None

-- and each of their values is one of its type, where the rows of a block can be counted
abbrev pub BuiltValuesFit : Type 0
BuiltValuesFit = (table : Table) → IsTable table → AllByRecursion (λ rows. length rows < 2 ^ 64) table.blocks → values_fit (built_zones table) ≡ true

-- the values are null, or of the type
abbrev pub AreOfType : Ty → List Val → Type 0
AreOfType t vs = list_all (λ v. is_null_val v || val_fits v t) vs ≡ true

-- a value stands so to each of these that is not null; null does where all are null
abbrev pub StandsTo : CompareOperator → List Val → Val → Type 0
StandsTo op vs bound = list_all (λ v. is_null_val v || compares op bound v) vs ≡ true

-- a value is null, or stands among these
abbrev pub IsAmong : List Val → Val → Type 0
IsAmong vs bound = is_null_val bound ≡ false → (i : ℕ) × (slice_get vs i ≡ Some bound)

-- of values of a plain type the least is one of them and at most each, the greatest is one of them and at least each; null where all are null
pub record AreExtreme (vs : List Val) : Type 0 where
  pub least_among : IsAmong vs (least_of vs)
  pub least : StandsTo CompareOperator.Lte vs (least_of vs)
  pub greatest_among : IsAmong vs (greatest_of vs)
  pub greatest : StandsTo CompareOperator.Gte vs (greatest_of vs)

abbrev pub BuiltBoundsAreExtreme : Type 0
BuiltBoundsAreExtreme = (t : Ty) (vs : List Val) → is_plain t ≡ true → AreOfType t vs → AreExtreme vs
