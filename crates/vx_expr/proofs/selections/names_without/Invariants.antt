use Rattle.std.proofs.Common.{◌≡◌, not, filter, take}
use Rattle.vx_dtype.specs.TypeRules.{has_name}
use Rattle.vx_expr.proofs.selections.names_without.Given as goal

abbrev pub invariant-loop-name : goal.invariant-loop-name
invariant-loop-name l = l.left.items ≡ filter (λ name. not (has_name name l.excluded)) (take l.name-index l.name-items)
