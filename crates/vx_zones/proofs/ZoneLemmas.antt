-- Columns, lengths and statistics that break no rule are zones.
use Rattle.std.proofs.Common.{◌≡◌, refl, ap, ◌∙◌, ℕ, ◌<◌, ◌^◌, true, None, List, map, length}
use Rattle.std.specs.Prelude.{Ok}
use Rattle.std.specs.List.{list_all}
use Rattle.vx_dtype.specs.Types.{Fields}
use Rattle.vx_semantics.specs.Tables.{ZoneStat, Zones, row_type}
use Rattle.vx_zones.specs.Heads.{head_of, head_rule}
use Rattle.vx_zones.specs.ZoneAnswers.{MakesZones}
use Rattle.vx_zones.specs.ZoneViews.{zones_with, AreZones}
use Rattle.vx_zones.specs.Zoning.{has_its_type, scalars_fit, broken_rule}
use Rattle.vx_zones.proofs.HeadLemmas.{no_rule_broken}

module _ (fs : Fields) (lengths : List ℕ) (stats made : List ZoneStat) (heads : None ≡ head_rule fs lengths (map head_of stats)) (have : list_all (has_its_type fs) stats ≡ true) (same : made ≡ stats) where
  abbrev zones_of : List ZoneStat → Zones
  zones_of zs = record { columns = fs; lengths = lengths; stats = zs }

  pub are_zones : length lengths < 2 ^ 32 → list_all (λ z. scalars_fit z.values) stats ≡ true → AreZones (row_type fs) lengths made
  are_zones few fit =
      (refl, few, ap (λ (zs : List ZoneStat). broken_rule (zones_of zs)) same ∙ no_rule_broken (zones_of stats) heads have, ap (list_all (λ (z : ZoneStat). scalars_fit z.values)) same ∙ fit)

  pub makes_zones : MakesZones (zones_of stats) (Ok (zones_with (row_type fs) lengths made))
  makes_zones = (ap zones_of same, no_rule_broken (zones_of stats) heads have)
