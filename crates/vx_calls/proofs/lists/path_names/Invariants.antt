-- The names of the path so far.
use Rattle.std.proofs.Common.{◌≡◌, map, take}
use Rattle.vx_dtype.specs.PathViews.{part_name}
use Rattle.vx_calls.proofs.lists.path_names.Given as goal

abbrev pub invariant-loop-part : goal.invariant-loop-part
invariant-loop-part l = l.names.items ≡ map part_name (take l.part-index l.part-items)
