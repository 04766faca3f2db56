-- Statistics whose values are a column of their type.
use Rattle.std.proofs.Common.{◌≡◌, sym, ◌∙◌, Option, Some, None, option_map}
use Rattle.vx_dtype.specs.Types.{Ty}
use Rattle.vx_semantics.specs.Tables.{ZoneStat}
use Rattle.vx_column.specs.Columns.{Column}
use Rattle.vx_zones.specs.LeafTypes.{nullable}
use Rattle.vx_zones.specs.StatColumns.{column_stat}
use Rattle.vx_zones.specs.TypedColumns.{IsColumnOf, IsTypedBy}
use Rattle.vx_zones.proofs.PlainLemmas.{values_by}

-- a statistic has its type where its values are a column of it
pub stat_typed : (o : Option Ty) (z made : ZoneStat) (t : Ty) (c : Column) → Some t ≡ option_map nullable o → IsColumnOf t z.values (Some c) → made ≡ column_stat z.path z.stat c → IsTypedBy o z (Some made)
stat_typed o z made t c own held e =
    (sym (values_by o t z.values own) ∙ held.0, held.1, e ∙ (λ i. record { path = z.path; stat = z.stat; values = held.3 i }))

-- and hasn't where they are none
pub stat_untyped : (o : Option Ty) (z : ZoneStat) (t : Ty) → Some t ≡ option_map nullable o → IsColumnOf t z.values None → IsTypedBy o z None
stat_untyped o z t own held = sym (values_by o t z.values own) ∙ held
