-- For the checker: no public clause cites this.
-- The columns of statistics over a run of blocks.
use Rattle.std.specs.Prelude.{ℕ, map, take, drop}
use Rattle.vx_dtype.specs.declared.PType.TheVariants.{U64}
use Rattle.vx_dtype.specs.declared.Nullability.TheVariants.{Nullable}
use Rattle.vx_dtype.specs.Types.{Ty, int_ty}
use Rattle.vx_dtype.specs.Values.{value_of}
use Rattle.vx_semantics.specs.Tables.{ZoneStat}
use Rattle.vx_passes.specs.PruningTables.{first_type}
use Rattle.vx_column.specs.Columns.{Column, column}

-- the type of a statistic's column: that of its first value of all, of a count where there is none
abbrev pub column_type : ZoneStat → Ty
column_type z = first_type z.values (int_ty U64 Nullable)

-- the column of a statistic's values in a run of blocks, which begins at a block and is so long
abbrev pub column_of : ℕ → ℕ → ZoneStat → Column
column_of first count z = column (column_type z) (map value_of (take count (drop first z.values)))
