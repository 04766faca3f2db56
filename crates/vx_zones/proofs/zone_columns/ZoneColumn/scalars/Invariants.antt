use Rattle.std.proofs.Common.{◌≡◌, take}
use Rattle.vx_zones.proofs.zone_columns.ZoneColumn.scalars.Given as goal

-- the values so far
abbrev pub invariant-loop-block : goal.invariant-loop-block
invariant-loop-block l = l.values.items ≡ take l.block l.fn.self.values
