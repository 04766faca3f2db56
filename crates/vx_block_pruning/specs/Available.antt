-- Which statistics of a table are available, as truths beside all of them.
use Rattle.std.specs.Prelude.{◌≡◌, Bool, cond, List, [], ◌∷◌, map, length}
use Rattle.vx_dtype.specs.Types.{Bytes}
use Rattle.vx_semantics.specs.Tables.{Zones, ZoneStat, joined_name}
use Rattle.vx_passes.specs.PruningTables.{available_statistics}

-- the joined name of a statistic
abbrev pub name_of : ZoneStat → Bytes
name_of z = joined_name z.path z.stat

-- the items beside which a truth stands that is true
abbrev pub flagged : {X : Type 0} → List Bool → List X → List X
flagged [] xs = []
flagged (b ∷ bs) [] = []
flagged (b ∷ bs) (x ∷ xs) = cond b (x ∷ flagged bs xs) (flagged bs xs)

-- these truths say of each statistic of a table whether it is available, and these are the joined names of those that are
pub record TellsAvailable (zones : Zones) (flags : List Bool) (names : List Bytes) : Type 0 where
  pub many : length flags ≡ length zones.stats
  pub kept : flagged flags zones.stats ≡ available_statistics zones
  pub named : names ≡ map name_of (available_statistics zones)
