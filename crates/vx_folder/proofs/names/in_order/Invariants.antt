-- the names so far stand before those that are left
use Rattle.std.proofs.Common.{◌≡◌, ◌++◌}
use Rattle.vx_folder.proofs.names.in_order.Given as goal

abbrev pub invariant-loop-name : goal.invariant-loop-name
invariant-loop-name l = l.names.items ++ l.name-iterator ≡ l.fn.standing.keys
