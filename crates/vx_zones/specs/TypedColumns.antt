-- For the checker: no public clause cites this.
-- Columns that are made of values that stand one by one, where these have the type that they ought to have.
use Rattle.std.specs.Prelude.{◌≡◌, true, false, Bool, List, Option, Some, None}
use Rattle.std.specs.List.{list_all}
use Rattle.std.specs.declared.vec.Vec.{Vec}
use Rattle.std.specs.declared.alloc.Global.{Global}
use Rattle.vx_dtype.specs.Equal.{ty_eq}
use Rattle.vx_dtype.specs.Types.{Bytes, Ty}
use Rattle.vx_dtype.specs.TypeRules.{is_plain}
use Rattle.vx_dtype.specs.Values.{Typed}
use Rattle.vx_semantics.specs.Tables.{ZoneStat}
use Rattle.vx_column.specs.Columns.{Column}
use Rattle.vx_zones.specs.LeafTypes.{type_by}
use Rattle.vx_zones.specs.StatColumns.{typed_rows}
use Rattle.vx_zones.specs.Zoning.{scalars_fit, values_have}

-- the column of values of a plain type; none exactly where one of them is of another type
abbrev pub IsColumnOf : Ty → List Typed → Option Column → Type 0
IsColumnOf t values None = list_all (λ s. ty_eq s.ty t) values ≡ false
IsColumnOf t values (Some c) =
    (list_all (λ s. ty_eq s.ty t) values ≡ true) × (scalars_fit values ≡ true) × (is_plain c.ty ≡ true) × (typed_rows c ≡ values)

-- the statistic, where each of its values has this type, made nullable; none exactly where one doesn't
abbrev pub IsTypedBy : Option Ty → ZoneStat → Option ZoneStat → Type 0
IsTypedBy t z None = values_have z.values t ≡ false
IsTypedBy t z (Some made) = (values_have z.values t ≡ true) × (scalars_fit z.values ≡ true) × (made ≡ z)

-- whether each value of each statistic has the type that its path leads to, made nullable
abbrev pub all_typed : (List Bytes → Option Ty) → List ZoneStat → Bool
all_typed types zs = list_all (λ z. values_have z.values (type_by types z)) zs

-- the statistics, where each value of each has the type that its path leads to, made nullable; none exactly where one doesn't
abbrev pub AreTypedBy : (List Bytes → Option Ty) → List ZoneStat → Option (Vec ZoneStat Global) → Type 0
AreTypedBy types zs None = all_typed types zs ≡ false
AreTypedBy types zs (Some made) = (all_typed types zs ≡ true) × (list_all (λ z. scalars_fit z.values) zs ≡ true) × (made.items ≡ zs)
