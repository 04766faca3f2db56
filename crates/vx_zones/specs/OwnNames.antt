-- For the checker: no public clause cites this.
-- The names by which a statistic is told from others.
use Rattle.std.specs.Prelude.{List, ◌∷◌}
use Rattle.vx_dtype.specs.StatNames.{stat_name}
use Rattle.vx_dtype.specs.Types.{Bytes}
use Rattle.vx_semantics.specs.Tables.{ZoneStat}

-- the name of a statistic's kind, and those of its path
abbrev pub own_names : ZoneStat → List Bytes
own_names z = stat_name z.stat ∷ z.path
