use Rattle.std.proofs.Common.{◌<◌, ◌≤◌, ◌∷◌, [], map, option_map, sym, ap, ◌∙◌, subst, arith}
use Rattle.std.proofs.lemmas.List.{map-append}
use Rattle.serde_json.specs.Find.{get}
use Rattle.vx_dtype.specs.RawViews.{raw_view}
use Rattle.vx_dtype.specs.TypeViews.{type_view}
use Rattle.serde_json.specs.View.{view}
use Rattle.vx_dtype.proofs.FieldsFrom.{has_type_at, depth-at}
use Rattle.vx_request.specs.Objects.{◌>>=◌}
use Rattle.vx_request.specs.Cells.{raw_in}
use Rattle.vx_request.specs.RequestViews.{raws_view}
use Rattle.vx_request.proofs.MemberLemmas.{member_missing, member_more, members_end}
use Rattle.vx_request.proofs.cells.+cells.Goals as goal

pub members_in-unreachable-requires-in_default-field_by_index : goal.members_in-unreachable-requires-in_default-field_by_index
members_in-unreachable-requires-in_default-field_by_index t c =
    has_type_at c.args.fields.now c.loop-i.i (subst (λ n. c.loop-i.i < n) c.nfields-i-end.ensures c.loop-i-test.true) c.in_default-field_by_index.ensures

pub members_in-returns-in_default-get : goal.members_in-returns-in_default-get
members_in-returns-in_default-get t c =
    member_missing c.loop-i.i c.args.fields.now c.in-Some.name.now (type_view c.in-Some-field_by_index.dtype.now) (view c.args.value.now) (raws_view c.loop-i.values) _
    c.in-Some.ensures c.in-Some-field_by_index.ensures c.loop-i.invariant
    (ap (λ o. o >>= raw_in (type_view c.in-Some-field_by_index.dtype.now)) (sym (c.in_default-get.ensures ∙ ap (λ f. get f (view c.args.value.now)) c.as_str.ensures)))

pub members_in-raw_in-requires : goal.members_in-raw_in-requires
members_in-raw_in-requires t c =
    let d = depth-at c.loop-i.i c.args.fields.now (type_view c.in-Some-field_by_index.dtype.now) (sym c.in-Some-field_by_index.ensures) in
    (omega (arith, d, c.decreases), tt)

pub members_in-returns-in-None : goal.members_in-returns-in-None
members_in-returns-in-None t c =
    member_missing c.loop-i.i c.args.fields.now c.in-Some.name.now (type_view c.in-Some-field_by_index.dtype.now) (view c.args.value.now) (raws_view c.loop-i.values) _
    c.in-Some.ensures c.in-Some-field_by_index.ensures c.loop-i.invariant
    (ap (λ o. o >>= raw_in (type_view c.in-Some-field_by_index.dtype.now)) (sym (c.in-Some-get.ensures ∙ ap (λ f. get f (view c.args.value.now)) c.as_str.ensures)) ∙ (sym c.in_ok-value.ensures ∙ ap (option_map raw_view) c.in-None.is))

pub members_in-loop-i-preserved : goal.members_in-loop-i-preserved
members_in-loop-i-preserved t c =
    member_more c.loop-i.i c.args.fields.now c.in-Some.name.now (type_view c.in-Some-field_by_index.dtype.now) (view c.args.value.now) (raw_view c.in-Some-2.value) (raws_view c.loop-i.values) (raws_view c.push.new.self) _
    c.in-Some.ensures c.in-Some-field_by_index.ensures c.loop-i.invariant
    (ap (λ o. o >>= raw_in (type_view c.in-Some-field_by_index.dtype.now)) (sym (c.in-Some-get.ensures ∙ ap (λ f. get f (view c.args.value.now)) c.as_str.ensures)) ∙ (sym c.in_ok-value.ensures ∙ ap (option_map raw_view) c.in-Some-2.is))
    (ap (map raw_view) c.in_ok-push-in-Some-2.ensures.items ∙ map-append raw_view c.loop-i.values.items (c.in-Some-2.value ∷ []))

pub members_in-returns : goal.members_in-returns
members_in-returns t c =
    members_end c.loop-i.i c.args.fields.now (view c.args.value.now) (raws_view c.loop-i.values) _ c.loop-i.invariant
    (subst (λ n. n ≤ c.loop-i.i) c.nfields-i-end.ensures c.loop-i-test.false)
