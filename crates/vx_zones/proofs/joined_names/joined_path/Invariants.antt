use Rattle.std.proofs.Common.{◌≡◌, map, take}
use Rattle.std.specs.String.{string_bytes}
use Rattle.vx_dtype.specs.PathViews.{part_name}
use Rattle.vx_semantics.specs.Tables.{joined_path}
use Rattle.vx_zones.proofs.joined_names.joined_path.Given as goal

-- the names so far, joined
abbrev pub invariant-loop-i : goal.invariant-loop-i
invariant-loop-i l = string_bytes l.joined ≡ joined_path (map part_name (take l.i l.parts))
