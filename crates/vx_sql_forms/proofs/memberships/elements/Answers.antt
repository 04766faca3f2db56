use Rattle.std.proofs.Common.{rules, ◌∙◌, ◌+◌, ap, drop, map}
use Rattle.vx_dtype.specs.RawViews.{raw_view}
use Rattle.vx_dtype.specs.TypeViews.{type_view}
use Rattle.vx_laws_sql.specs.Membership.{elements}
use Rattle.vx_sql_forms.specs.Views.{typed_view}
use Rattle.vx_sql_forms.specs.MemberParts.{values_view}
use Rattle.vx_sql_forms.proofs.MemberLemmas.{put_before, one_taken, none_left, from_here, all_refused}
use Rattle.vx_sql_forms.proofs.memberships.elements.Goals as goal

-- src/memberships.rt:136:18
pub returns-in_err-values : goal.returns-in_err-values
returns-in_err-values c =
    let l = c.loop-i in
    let e = typed_view c.args.typed.now in
    let t = type_view c.args.element.now in
    let x = c.index-constants-i.result in
    let behind = elements e t (map raw_view (drop (l.i + 1) c.args.constants.now)) in
    let here = from_here c.args.constants.now l.i x c.loop-i-test.true c.index-constants-i.is in
    let told = l.invariant ∙ ap (λ z. put_before (values_view l.values) (elements e t (map raw_view z))) here in
    let all = all_refused (elements e t (map raw_view c.args.constants.now)) e t (raw_view x) (values_view l.values) behind c.in_err-values.field-0.0 told
    c.in_err-values.ensures in
    search (rules, all)

-- src/memberships.rt:135:5
pub loop-i-preserved : goal.loop-i-preserved
loop-i-preserved c =
    let l = c.loop-i in
    let e = typed_view c.args.typed.now in
    let t = type_view c.args.element.now in
    let x = c.index-constants-i.result in
    let behind = elements e t (map raw_view (drop (l.i + 1) c.args.constants.now)) in
    let here = from_here c.args.constants.now l.i x c.loop-i-test.true c.index-constants-i.is in
    l.invariant ∙ ap (λ z. put_before (values_view l.values) (elements e t (map raw_view z))) here
    ∙ one_taken e t (raw_view x) (values_view l.values) (values_view c.in_ok-values.values) behind c.in_ok-values.ensures

-- src/memberships.rt:126:1
pub returns : goal.returns
returns c =
    c.loop-i.invariant
    ∙ none_left (typed_view c.args.typed.now) (type_view c.args.element.now) c.args.constants.now c.loop-i.i (values_view c.loop-i.values) c.loop-i-test.false
