-- The names of the statistics.
use lib.Chars.{codes}
use Rattle.vx_dtype.specs.Types.{Bytes}
pub use Rattle.vx_dtype.specs.declared.statistics.Stat.{Stat}
pub use Rattle.vx_dtype.specs.declared.statistics.Stat.TheVariants.{Min, Max, NaNCount, NullCount}

-- the bytes of a statistic's name
abbrev pub stat_name : Stat → Bytes
stat_name Min = codes "min"
stat_name Max = codes "max"
stat_name NaNCount = codes "nan_count"
stat_name NullCount = codes "null_count"
