-- For the checker: no public clause cites this.
-- Statistics of a request as they are read into columns, and what they are refused by where they can't be.
use Rattle.std.specs.Prelude.{◌≡◌, Bool, true, false, List, Option, Some, None, map, Err}
use Rattle.std.specs.Option.{option_and_then}
use Rattle.std.specs.List.{list_all}
use Rattle.std.specs.declared.vec.Vec.{Vec}
use Rattle.std.specs.declared.alloc.Global.{Global}
use Rattle.serde_json.specs.Events.{items_len}
use Rattle.vx_dtype.specs.Types.{Bytes, Ty}
use Rattle.vx_semantics.specs.Tables.{ZoneStat, Zones}
use Rattle.vx_zones.specs.declared.errors.ZoneError.{ZoneError}
use Rattle.vx_zones.specs.ZoneAnswers.{MakesZones}
use Rattle.vx_zones.specs.Heads.{Head}
use Rattle.vx_zones.specs.LeafTypes.{type_by}
use Rattle.vx_zones.specs.Zoning.{statistic_type, values_have}
use Rattle.vx_request.specs.RequestMembers.{StatText}
use Rattle.vx_request.specs.Requests.{typed_stat}

-- a statistic by the plain types that paths lead to
abbrev pub stat_by : (List Bytes → Option Ty) → StatText → ZoneStat
stat_by types s = typed_stat s (option_and_then (statistic_type s.stat) (types s.path))

-- whether each value of a statistic has the type that its path leads to, made nullable
abbrev pub has_type_by : (List Bytes → Option Ty) → ZoneStat → Bool
has_type_by types z = values_have z.values (type_by types z)

-- a statistic as a column; none exactly where not each of its values has its type
abbrev pub IsRead : (List Bytes → Option Ty) → StatText → Option ZoneStat → Type 0
IsRead types s None = has_type_by types (stat_by types s) ≡ false
IsRead types s (Some z) = (has_type_by types (stat_by types s) ≡ true) × (z ≡ stat_by types s)

-- the same of statistics
abbrev pub AreRead : (List Bytes → Option Ty) → List StatText → Option (Vec ZoneStat Global) → Type 0
AreRead types ss None = list_all (has_type_by types) (map (stat_by types) ss) ≡ false
AreRead types ss (Some zs) = (list_all (has_type_by types) (map (stat_by types) ss) ≡ true) × (zs.items ≡ map (stat_by types) ss)

-- what a statistic is of, and how many cells it has
abbrev pub text_head : StatText → Head
text_head s = record { path = s.path; stat = s.stat; count = items_len s.values }

-- the zones are refused so
abbrev pub RefusesZones : Zones → ZoneError → Type 0
RefusesZones zones e = MakesZones zones (Err e)
