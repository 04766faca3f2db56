-- For the checker: no public clause cites this.
-- A code of headers: by it the checker tells the layouts that are seen apart.
use Rattle.std.proofs.Common.{ℕ, refl, List}
use Rattle.std.specs.Coded.{Coded, code_by, coded_ℕ, coded_list, coded×}
use Rattle.vx_semantics.specs.Tables.{Zones}
use Rattle.vx_zones.specs.ZoneCodes.{coded_zones}
use Rattle.vx_laws_file.specs.FileForms.{Header}

-- a header is stored as its zones and the lengths of its ranges
abbrev pub coded_header : Coded Header
coded_header =
    code_by (Zones × List (List ℕ)) (coded× coded_zones (coded_list (coded_list coded_ℕ))) (λ h. (h.zones, h.range_lengths))
    (λ p. record { zones = p.0; range_lengths = p.1 }) (λ _. refl)
