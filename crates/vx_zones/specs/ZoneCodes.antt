-- For the checker: no public clause cites this.
-- A code of zones: by it the checker tells the zones that are seen apart.
use Rattle.std.proofs.Common.{◌≡◌, ℕ, zero, suc, refl, List}
use Rattle.std.specs.Coded.{Coded, code_by, coded_ℕ, coded_list, coded×}
use Rattle.vx_dtype.specs.declared.Stat.{Stat}
use Rattle.vx_dtype.specs.declared.Stat.TheVariants.{Min, Max, NaNCount, NullCount}
use Rattle.vx_dtype.specs.Types.{Bytes, Fields}
use Rattle.vx_dtype.specs.Values.{Typed}
use Rattle.vx_dtype.specs.Codes.{coded_bytes, coded_fields}
use Rattle.vx_dtype.specs.ValueCodes.{coded_typed}
use Rattle.vx_semantics.specs.Tables.{ZoneStat, Zones}

-- the number of a statistic's kind, and the kind of a number
abbrev pub stat_number : Stat → ℕ
stat_number Min = 0
stat_number Max = 1
stat_number NaNCount = 2
stat_number NullCount = 3

abbrev pub stat_at : ℕ → Stat
stat_at zero = Min
stat_at (suc zero) = Max
stat_at (suc (suc zero)) = NaNCount
stat_at (suc (suc (suc n))) = NullCount

pub stat_at-number : (s : Stat) → stat_at (stat_number s) ≡ s
stat_at-number Min = refl
stat_at-number Max = refl
stat_at-number NaNCount = refl
stat_at-number NullCount = refl

abbrev pub coded_stat : Coded Stat
coded_stat = code_by ℕ coded_ℕ stat_number stat_at stat_at-number

-- a list of values beside their types
abbrev pub coded_scalars : Coded (List Typed)
coded_scalars = coded_list coded_typed

-- a statistic is stored as its path, kind and values
abbrev pub coded_zone_stat : Coded ZoneStat
coded_zone_stat =
    code_by (List Bytes × (Stat × List Typed)) (coded× (coded_list coded_bytes) (coded× coded_stat coded_scalars)) (λ z. (z.path, (z.stat, z.values)))
    (λ p. record { path = p.0; stat = p.1.0; values = p.1.1 }) (λ _. refl)

-- zones are stored as their columns, lengths and statistics
abbrev pub coded_zones : Coded Zones
coded_zones =
    code_by (Fields × (List ℕ × List ZoneStat)) (coded× coded_fields (coded× (coded_list coded_ℕ) (coded_list coded_zone_stat)))
    (λ z. (z.columns, (z.lengths, z.stats))) (λ p. record { columns = p.0; lengths = p.1.0; stats = p.1.1 }) (λ _. refl)
