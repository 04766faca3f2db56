-- The plain types that paths lead to from a row's type on, and the types of statistics by them.
use Rattle.std.specs.Prelude.{List, Option}
use Rattle.std.specs.Option.{option_and_then}
use Rattle.vx_dtype.specs.declared.Nullability.TheVariants.{Nullable}
use Rattle.vx_dtype.specs.Types.{Bytes, Ty}
use Rattle.vx_dtype.specs.TypeRules.{with_nullability}
use Rattle.vx_semantics.specs.Tables.{ZoneStat}
use Rattle.vx_zones.specs.Zoning.{type_at, plain_only, statistic_type}

-- the plain type that a path leads to, from a type on through fields of structs
abbrev pub plain_from : Ty → List Bytes → Option Ty
plain_from t path = option_and_then plain_only (type_at path t)

-- the type of a statistic, by the plain types that paths lead to
abbrev pub type_by : (List Bytes → Option Ty) → ZoneStat → Option Ty
type_by types z = option_and_then (statistic_type z.stat) (types z.path)

-- a type, made nullable
abbrev pub nullable : Ty → Ty
nullable t = with_nullability t Nullable
