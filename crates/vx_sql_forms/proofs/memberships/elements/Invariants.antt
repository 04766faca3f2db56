use Rattle.std.proofs.Common.{◌≡◌, map, drop}
use Rattle.vx_dtype.specs.RawViews.{raw_view}
use Rattle.vx_dtype.specs.TypeViews.{type_view}
use Rattle.vx_laws_sql.specs.Membership.{elements}
use Rattle.vx_sql_forms.specs.MemberParts.{values_view}
use Rattle.vx_sql_forms.specs.Views.{typed_view}
use Rattle.vx_sql_forms.proofs.MemberLemmas.{put_before}
use Rattle.vx_sql_forms.proofs.memberships.elements.Given as goal

-- the values so far, and those of the constants that are left
abbrev pub invariant-loop-i : goal.invariant-loop-i
invariant-loop-i l =
    elements (typed_view l.typed) (type_view l.element) (map raw_view l.constants)
    ≡ put_before (values_view l.values) (elements (typed_view l.typed) (type_view l.element) (map raw_view (drop l.i l.constants)))
