use Rattle.std.proofs.Common.{◌≡◌, map, drop}
use Rattle.vx_dtype.specs.PathViews.{part_name}
use Rattle.vx_dtype.specs.TypeViews.{type_view}
use Rattle.vx_zones.specs.Zoning.{type_at}
use Rattle.vx_zones.proofs.plain_fields.type_at.Given as goal

-- what the path leads to, the parts that are left lead to from the type on
abbrev pub invariant-loop-part : goal.invariant-loop-part
invariant-loop-part l = type_at l.fn.path (type_view l.fn.row) ≡ type_at (map part_name (drop l.part-index l.part-items)) (type_view l.dtype)
