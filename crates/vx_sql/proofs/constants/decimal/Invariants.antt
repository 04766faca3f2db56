use Rattle.std.proofs.Common.{◌≡◌, ◌<◌, ◌^◌, length}
use Rattle.vx_laws_statements.specs.Constants as spec
use Rattle.vx_sql.proofs.constants.decimal.Given as goal

abbrev pub decreases-loop-left : goal.decreases-loop-left
decreases-loop-left l = length l.left

-- the number so far, before the digits that are left
abbrev pub invariant-loop-left : goal.invariant-loop-left
invariant-loop-left l = (spec.digits_behind 0 l.fn.digits ≡ spec.digits_behind l.found l.left) × (l.found < 2 ^ 120)
