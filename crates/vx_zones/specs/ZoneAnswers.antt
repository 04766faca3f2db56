-- What is answered where zones are to be made.
use Rattle.std.specs.Prelude.{◌≡◌, Some, None, Result, Ok, Err}
use Rattle.vx_zones.specs.declared.errors.ZoneError.{ZoneError}
use Rattle.vx_zones.specs.declared.errors.ZoneError.TheVariants.{NoMemory}
use Rattle.vx_semantics.specs.Tables.{Zones}
use Rattle.vx_zones.specs.Zoning.{broken_rule}

-- the answer is the zones where they break no rule, else the first rule that they break; want of memory may be answered at any time
abbrev pub MakesZones : Zones → Result Zones ZoneError → Type 0
MakesZones zones (Ok made) = (made ≡ zones) × (broken_rule zones ≡ None)
MakesZones zones (Err NoMemory) = Unit {0}
MakesZones zones (Err e) = broken_rule zones ≡ Some e
