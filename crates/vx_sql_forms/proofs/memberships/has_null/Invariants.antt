use Rattle.std.proofs.Common.{◌≡◌, map, drop}
use Rattle.vx_dtype.specs.RawViews.{raw_view}
use Rattle.vx_laws_sql.specs.Membership.{has_null}
use Rattle.vx_sql_forms.proofs.memberships.has_null.Given as goal

-- what is left to look at
abbrev pub invariant-loop-i : goal.invariant-loop-i
invariant-loop-i l = has_null (map raw_view l.constants) ≡ has_null (map raw_view (drop l.i l.constants))
