-- Which statistics a table may have: the rules that make columns, lengths and statistics zones, in their order.
use Rattle.std.specs.Prelude.{ℕ, Bool, true, false, cond, not, ◌&&◌, List, [], ◌∷◌, length, ◌==◌, nat_le, Option, Some, None, is_some}
use Rattle.std.specs.List.{list_all, list_any}
use Rattle.std.specs.Option.{option_and_then}
use Rattle.vx_dtype.specs.declared.PType.TheVariants.{U64}
use Rattle.vx_dtype.specs.declared.Nullability.TheVariants.{NonNullable, Nullable}
use Rattle.vx_dtype.specs.declared.Stat.{Stat}
use Rattle.vx_dtype.specs.declared.Stat.TheVariants.{Min, Max, NaNCount, NullCount}
use Rattle.vx_dtype.specs.Types.{Bytes, Ty, int_ty, struct_ty, Fields, no_fields, field}
use Rattle.vx_dtype.specs.TypeRules.{with_nullability, is_plain, field_type, no_name_twice, depth_of, most_deep}
use Rattle.vx_dtype.specs.Values.{Typed}
use Rattle.vx_dtype.specs.Fits.{fits}
use Rattle.vx_dtype.specs.Equal.{ty_eq}
use Rattle.vx_semantics.specs.Tables.{ZoneStat, Zones, row_type}
use Rattle.vx_semantics.specs.Pruning.{is_statistic}
use Rattle.vx_zones.specs.declared.errors.ZoneError.{ZoneError}
use Rattle.vx_zones.specs.declared.errors.ZoneError.TheVariants as errors

-- whether no column's type is deeper than 64
abbrev pub are_shallow : Fields → Bool
are_shallow no_fields = true
are_shallow (field f t fs) = nat_le (depth_of t) most_deep && are_shallow fs

-- the type that a path leads to, from a type on through fields of structs
abbrev pub type_at : List Bytes → Ty → Option Ty
type_at [] t = Some t
type_at (f ∷ path) (struct_ty fs n) = option_and_then (type_at path) (field_type f fs)
type_at (f ∷ path) _ = None

-- the type, where it is plain
abbrev pub plain_only : Ty → Option Ty
plain_only t = cond (is_plain t) (Some t) None

-- the plain type that a path of a table leads to
abbrev pub leaf_type : Fields → List Bytes → Option Ty
leaf_type columns path = option_and_then plain_only (type_at path (row_type columns))

-- the type of a statistic of a path to this type: the same for bounds, that of counts for the number of nulls; there is no count of what is no number
abbrev pub statistic_type : Stat → Ty → Option Ty
statistic_type Min t = Some t
statistic_type Max t = Some t
statistic_type NullCount t = Some (int_ty U64 NonNullable)
statistic_type NaNCount t = None

-- the type of a statistic of a table, where its path leads to a plain field
abbrev pub type_of_statistic : Fields → ZoneStat → Option Ty
type_of_statistic columns z = option_and_then (statistic_type z.stat) (leaf_type columns z.path)

-- whether no two statistics are of one path and one kind
abbrev pub distinct_statistics : List ZoneStat → Bool
distinct_statistics [] = true
distinct_statistics (z ∷ zs) = not (list_any (is_statistic z.path z.stat) zs) && distinct_statistics zs

-- whether a statistic has one value per block
abbrev pub counts_blocks : List ℕ → ZoneStat → Bool
counts_blocks lengths z = length z.values == length lengths

-- whether the type of each value is this one, made nullable
abbrev pub values_have : List Typed → Option Ty → Bool
values_have values None = false
values_have values (Some t) = list_all (λ s. ty_eq s.ty (with_nullability t Nullable)) values

-- whether the type of each value of a statistic is the statistic's, made nullable
abbrev pub has_its_type : Fields → ZoneStat → Bool
has_its_type columns z = values_have z.values (type_of_statistic columns z)

-- whether each value is one of its type
abbrev pub scalars_fit : List Typed → Bool
scalars_fit values = list_all (λ s. fits s.value s.ty) values

-- whether each value of each statistic is one of its type
abbrev pub values_fit : Zones → Bool
values_fit zones = list_all (λ z. scalars_fit z.values) zones.stats

-- the first rule that columns, lengths and statistics break: names that stand twice, a type that is too deep,
-- a path to no plain field, one statistic twice, another number of values than of blocks, a value of another type
unfoldable pub broken_rule : Zones → Option ZoneError
broken_rule z =
    cond (not (no_name_twice (row_type z.columns))) (Some errors.DuplicateName)
    (cond (not (are_shallow z.columns)) (Some errors.DeepType)
    (cond (not (list_all (λ s. is_some (type_of_statistic z.columns s)) z.stats)) (Some errors.BadStatPath)
    (cond (not (distinct_statistics z.stats)) (Some errors.DuplicateStat)
    (cond (not (list_all (counts_blocks z.lengths) z.stats)) (Some errors.WrongStatCount)
    (cond (not (list_all (has_its_type z.columns) z.stats)) (Some errors.WrongStatType) None)))))
