-- The rules on statistics that look at no value: at paths, kinds and numbers of values alone.
use Rattle.std.specs.Prelude.{ℕ, not, cond, List, [], map, length, ◌==◌, Option, Some, None, is_some}
use Rattle.std.specs.List.{list_all}
use Rattle.vx_dtype.specs.declared.Stat.{Stat}
use Rattle.vx_dtype.specs.Types.{Bytes, Ty, Fields}
use Rattle.vx_dtype.specs.TypeRules.{no_name_twice}
use Rattle.vx_semantics.specs.Tables.{ZoneStat, row_type}
use Rattle.vx_zones.specs.declared.errors.ZoneError.{ZoneError}
use Rattle.vx_zones.specs.declared.errors.ZoneError.TheVariants as errors
use Rattle.vx_zones.specs.LeafTypes.{type_by}
use Rattle.vx_zones.specs.Zoning.{are_shallow, leaf_type, distinct_statistics}

-- what a statistic is of, and how many values it has
pub record Head : Type 0 where
  pub path : List Bytes
  pub stat : Stat
  pub count : ℕ

-- that of a statistic
abbrev pub head_of : ZoneStat → Head
head_of z = record { path = z.path; stat = z.stat; count = length z.values }

-- a statistic of the same path and kind without values
abbrev pub bare : Head → ZoneStat
bare h = record { path = h.path; stat = h.stat; values = [] }

-- the first rule that lengths and statistics break, but for that of the values' types, by the plain types that paths lead to
abbrev pub statistic_rule : (List Bytes → Option Ty) → List ℕ → List Head → Option ZoneError
statistic_rule types lengths hs =
    cond (not (list_all (λ h. is_some (type_by types (bare h))) hs)) (Some errors.BadStatPath)
    (cond (not (distinct_statistics (map bare hs))) (Some errors.DuplicateStat)
    (cond (not (list_all (λ h. h.count == length lengths) hs)) (Some errors.WrongStatCount) None))

-- the first rule that columns, lengths and statistics break, but for that of the values' types
unfoldable pub head_rule : Fields → List ℕ → List Head → Option ZoneError
head_rule columns lengths hs =
    cond (not (no_name_twice (row_type columns))) (Some errors.DuplicateName)
    (cond (not (are_shallow columns)) (Some errors.DeepType) (statistic_rule (leaf_type columns) lengths hs))
