use Rattle.std.proofs.Common.{◌≡◌, map, drop}
use Rattle.vx_dtype.specs.RawViews.{raw_view}
use Rattle.vx_laws_sql.specs.Membership.{first_typed}
use Rattle.vx_sql_forms.proofs.memberships.first_typed.Given as goal

-- what is left to look at
abbrev pub invariant-loop-i : goal.invariant-loop-i
invariant-loop-i l = first_typed (map raw_view l.constants) ≡ first_typed (map raw_view (drop l.i l.constants))
