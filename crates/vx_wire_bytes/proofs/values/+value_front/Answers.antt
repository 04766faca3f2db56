use Rattle.std.proofs.Common.{◌≡◌, ◌<◌, ◌≤◌, map, Some, sym, ap, ◌∙◌, subst, arith}
use Rattle.std.specs.Prelude.{option_map}
use Rattle.vx_dtype.specs.Types.{list_ty}
use Rattle.vx_dtype.specs.Values.{Raw, raw_list}
use Rattle.vx_dtype.specs.TypeRules.{depth_of}
use Rattle.vx_dtype.specs.TypeViews.{type_view}
use Rattle.vx_dtype.specs.RawViews.{raw_view, raws_of, raw_step}
use Rattle.vx_dtype.specs.declared.values.ScalarValue.TheOpen.{List}
use Rattle.vx_dtype.specs.declared.values.ScalarValue.TheVariants.{rolls-List}
use Rattle.vx_dtype.specs.declared.values.ScalarValue.TheFolds.{fold-roll-ScalarValue}
use Rattle.vx_wire_bytes.specs.Reading.{◌>>=◌}
use Rattle.vx_wire_bytes.specs.ValueReading.{kind_at, value_at}
use Rattle.vx_dtype.proofs.FieldsFrom.{depth-at, has_type_at}
use Rattle.vx_wire_bytes.proofs.ValueLoops.{elements_start, elements_go_on, no_element, elements_end, no_elements_start, members_go_on, no_member, members_end}
use Rattle.vx_wire_bytes.proofs.values.+value_front.Goals as goal

pub elements_front-returns-in_default : goal.elements_front-returns-in_default
elements_front-returns-in_default t c = no_elements_start (value_at (type_view c.args.dtype.now)) c.args.bytes.now c.in_default.ensures

pub elements_front-loop-init : goal.elements_front-loop-init
elements_front-loop-init t c =
    elements_start raw_view (value_at (type_view c.args.dtype.now)) c.args.bytes.now c.in-Some.number c.in-Some.rest.now c.new-elements.result.items c.new-elements.ensures.items c.in-Some.ensures

pub elements_front-returns-in_default-2 : goal.elements_front-returns-in_default-2
elements_front-returns-in_default-2 t c =
    no_element raw_view (value_at (type_view c.args.dtype.now)) c.args.bytes.now c.in-Some.number c.loop.counter c.loop.rest.now c.loop.elements.items c.loop-test.true
    (ap (option_map (λ x. (raw_view x.0, x.1.now))) (sym c.in_default-2.is) ∙ c.in_ok-element.ensures) c.loop.invariant

pub elements_front-loop-preserved : goal.elements_front-loop-preserved
elements_front-loop-preserved t c =
    elements_go_on raw_view (value_at (type_view c.args.dtype.now)) c.args.bytes.now c.in-Some.number c.loop.counter c.loop.rest.now c.loop.elements.items c.push.new.self.items c.in-Some-2.element c.in-Some-2.after.now c.loop-test.true
    (ap (option_map (λ x. (raw_view x.0, x.1.now))) (sym c.in-Some-2.is) ∙ c.in_ok-element.ensures) c.in_ok-push.ensures.items c.loop.invariant

pub elements_front-returns : goal.elements_front-returns
elements_front-returns t c = elements_end raw_view (value_at (type_view c.args.dtype.now)) c.args.bytes.now c.in-Some.number c.loop.counter c.loop.rest.now c.loop.elements.items c.loop-test.false c.loop.invariant

pub members_front-unreachable-requires : goal.members_front-unreachable-requires
members_front-unreachable-requires t c = has_type_at c.args.fields.now c.loop-i.i (subst (λ n. c.loop-i.i < n) c.nfields-i-end.ensures c.loop-i-test.true) c.in_default.ensures

pub members_front-value_front-requires : goal.members_front-value_front-requires
members_front-value_front-requires t c = (omega (arith, c.decreases, depth-at c.loop-i.i c.args.fields.now (type_view c.in-Some.dtype.now) (sym c.in-Some.ensures)), tt)

pub members_front-returns-in_default-2 : goal.members_front-returns-in_default-2
members_front-returns-in_default-2 t c =
    no_member raw_view c.args.fields.now c.args.bytes.now c.loop-i.i c.loop-i.rest.now (type_view c.in-Some.dtype.now) c.loop-i.values.items (sym c.in-Some.ensures)
    (ap (option_map (λ x. (raw_view x.0, x.1.now))) (sym c.in_default-2.is) ∙ c.in_ok-value.ensures) c.loop-i.invariant

pub members_front-loop-i-preserved : goal.members_front-loop-i-preserved
members_front-loop-i-preserved t c =
    members_go_on raw_view c.args.fields.now c.args.bytes.now c.loop-i.i c.loop-i.rest.now (type_view c.in-Some.dtype.now) c.loop-i.values.items c.push.new.self.items c.in-Some-2.value c.in-Some-2.after.now (sym c.in-Some.ensures)
    (ap (option_map (λ x. (raw_view x.0, x.1.now))) (sym c.in-Some-2.is) ∙ c.in_ok-value.ensures) c.in_ok-push.ensures.items c.loop-i.invariant

pub members_front-returns : goal.members_front-returns
members_front-returns t c = members_end raw_view c.args.fields.now c.args.bytes.now c.loop-i.i c.loop-i.rest.now c.loop-i.values.items (subst (λ n. n ≤ c.loop-i.i) c.nfields-i-end.ensures c.loop-i-test.false) c.loop-i.invariant

pub kind_front-elements_front-requires : goal.kind_front-elements_front-requires
unfolding depth_of
kind_front-elements_front-requires t c = (omega (arith, c.decreases, ap (λ d. depth_of (type_view d)) c.in-List.is, ap depth_of c.dtype.ensures), tt)

pub kind_front-members_front-requires : goal.kind_front-members_front-requires
unfolding depth_of
kind_front-members_front-requires t c = (omega (arith, c.decreases, ap (λ d. depth_of (type_view d)) c.in-Struct.is), tt)

pub kind_front-returns-in_ok-new-in-List : goal.kind_front-returns-in_ok-new-in-List
unfolding kind_at
kind_front-returns-in_ok-new-in-List t c =
    let shared = c.in_ok-new-in-List.field-0 in
    let seen = ap raw_view (sym (rolls-List shared)) ∙ fold-roll-ScalarValue Raw raw_step (List shared) ∙ ap (λ v. raw_list (raws_of (map raw_view v.items))) c.in_ok-new-in-List.ensures.ok in
    let type : type_view c.args.dtype.now ≡ list_ty (type_view c.dtype.result.now) c.in-List.field-1 = ap type_view c.in-List.is ∙ ap (λ e. list_ty e c.in-List.field-1) (sym c.dtype.ensures) in
    let read = ap (option_map (λ x. (raws_of (map raw_view x.0.items), x.1.now))) (sym c.in-Some.is) ∙ c.in_ok-elements-in-List.ensures in
    ap (λ x. Some (x, c.in-Some.rest.now)) seen ∙ ap (λ o. o >>= λ xs. Some (raw_list xs.0, xs.1)) read ∙ ap (λ u. kind_at u c.args.bytes.now) (sym type)
