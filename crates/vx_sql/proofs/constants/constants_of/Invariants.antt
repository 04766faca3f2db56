use Rattle.std.proofs.Common.{◌≡◌, map, length}
use Rattle.vx_dtype.specs.RawViews.{raw_view}
use Rattle.vx_laws_statements.specs.Constants as spec
use Rattle.vx_sql.proofs.constants.constants_of.Given as goal

abbrev pub decreases-loop-members : goal.decreases-loop-members
decreases-loop-members l = length l.members

-- the constants so far, and those of the members that are left
abbrev pub invariant-loop-members : goal.invariant-loop-members
invariant-loop-members l = spec.constants_of l.initial.members ≡ spec.constants_behind (map raw_view l.found.items) l.members
