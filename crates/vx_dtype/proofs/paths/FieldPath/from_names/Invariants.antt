use Rattle.std.proofs.Common.{◌≡◌, map}
use Rattle.vx_dtype.specs.PathViews.{part_name}
use Rattle.vx_dtype.proofs.paths.FieldPath.from_names.Given as goal

-- the parts so far are of the names so far
abbrev pub invariant-loop-name : goal.invariant-loop-name
invariant-loop-name l = map part_name l.parts.items ≡ l.yielded
