-- How statistics are seen, and which paths stand for them.
use Rattle.std.specs.Prelude.{◌≡◌, true, ℕ, ◌^◌, ◌<◌, List, [], length, fold, None}
use Rattle.vx_dtype.specs.Types.{Bytes, Ty}
use Rattle.vx_dtype.specs.TypeRules.{fields_of}
use Rattle.vx_dtype.specs.Paths.{with_path}
use Rattle.vx_semantics.specs.Tables as tables
use Rattle.vx_zones.specs.Zoning.{broken_rule, values_fit}
use Rattle.vx_zones.specs.Heads as heads
use Rattle.vx_zones.specs.declared.heads.StatHead.{StatHead}
use Rattle.vx_zones.specs.declared.zones.ZoneStat.{ZoneStat}

-- the statistic of a table that this one stands for
abbrev pub stat_view : ZoneStat → tables.ZoneStat
stat_view z = record { path = z.path; stat = z.stat; values = z.values }

-- what this head says of a statistic
abbrev pub head_view : StatHead → heads.Head
head_view h = record { path = h.path.now; stat = h.stat; count = h.count }

-- and of one without values
abbrev pub bare_view : StatHead → tables.ZoneStat
bare_view h = heads.bare (head_view h)

-- the zones of a table whose rows are of this type, with these lengths of blocks and these statistics
abbrev pub zones_with : Ty → List ℕ → List tables.ZoneStat → tables.Zones
zones_with t lengths stats = record { columns = fields_of t; lengths = lengths; stats = stats }

-- the rows are structs that are never null, there are fewer than 2^32 blocks, no rule of zones is broken, and each value is one of its type
abbrev pub AreZones : Ty → List ℕ → List tables.ZoneStat → Type 0
AreZones t lengths stats =
    (t ≡ tables.row_type (fields_of t)) × (length lengths < 2 ^ 32) × (broken_rule (zones_with t lengths stats) ≡ None)
    × (values_fit (zones_with t lengths stats) ≡ true)

-- the paths that stand for statistics, in order, none twice
abbrev pub statistic_paths : List tables.ZoneStat → List (List Bytes)
statistic_paths stats = fold (λ paths z. with_path (tables.statistic_path z.path z.stat) paths) [] stats
