use Rattle.std.proofs.Common.{◌≡◌, ◌∷◌, map, take}
use Rattle.vx_dtype.specs.PathViews.{part_name}
use Rattle.vx_dtype.specs.StatNames.{stat_name}
use Rattle.vx_zones.proofs.zone_rules.own_names.Given as goal

-- the name of the kind, and those of the path so far
abbrev pub invariant-loop-part : goal.invariant-loop-part
invariant-loop-part l = l.names.items ≡ stat_name l.fn.head.stat ∷ map part_name (take l.part-index l.part-items)
