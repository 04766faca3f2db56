use Rattle.std.proofs.Common.{◌≡◌, ◌++◌, ◌∷◌, [], map, Some, refl, sym, ap, ◌∙◌, subst}
use Rattle.std.specs.Prelude.{option_map, IfOk}
use Rattle.vx_dtype.specs.TypeViews.{type_view}
use Rattle.vx_dtype.specs.Zipped.{zipped}
use Rattle.vx_wire_bytes.specs.TypeReading.{type_at, all_fields_with}
use Rattle.vx_wire_bytes.proofs.FieldLoops.{no_fields_start, no_name, no_type, fields_end, type_at-step, reading_starts, reading_goes_on}
use Rattle.vx_wire_bytes.proofs.types.+type_front.Goals as goal

pub fields_front-returns-in_default : goal.fields_front-returns-in_default
fields_front-returns-in_default t c = no_fields_start (type_at c.args.deep) c.args.bytes.now c.in_default.ensures

pub fields_front-loop-init : goal.fields_front-loop-init
fields_front-loop-init t c =
    reading_starts type_view (type_at c.args.deep) c.args.bytes.now c.in-Some.number c.in-Some.rest.now c.new-names.result.items c.new-dtypes.result.items c.new-names.ensures.items c.new-dtypes.ensures.items c.in-Some.ensures

pub fields_front-returns-in_default-text_front : goal.fields_front-returns-in_default-text_front
fields_front-returns-in_default-text_front t c =
    no_name (type_at c.args.deep) (all_fields_with (type_at c.args.deep) c.args.bytes.now) (zipped c.loop.names.items (map type_view c.loop.dtypes.items)) c.in-Some.number c.loop.counter c.loop.rest.now c.loop-test.true
    c.in_default-text_front.ensures c.loop.invariant.so_far

pub fields_front-returns-in_default-2 : goal.fields_front-returns-in_default-2
fields_front-returns-in_default-2 t c =
    no_type (type_at c.args.deep) (all_fields_with (type_at c.args.deep) c.args.bytes.now) (zipped c.loop.names.items (map type_view c.loop.dtypes.items)) c.in-Some.number c.loop.counter c.loop.rest.now
    c.in-Some-text_front.name.now c.in-Some-text_front.after_name.now c.loop-test.true c.in-Some-text_front.ensures
    (ap (option_map (λ x. (type_view x.0, x.1.now))) (sym c.in_default-2.is) ∙ c.in_ok-dtype.ensures) c.loop.invariant.so_far

pub fields_front-loop-preserved : goal.fields_front-loop-preserved
fields_front-loop-preserved t c =
    reading_goes_on type_view (type_at c.args.deep) c.args.bytes.now c.in-Some.number c.loop.counter c.loop.rest.now c.loop.names.items c.push.new.self.items c.loop.dtypes.items c.push-in-loop.new.self.items
    c.in-Some-text_front.name.now c.in-Some-text_front.after_name.now c.in-Some-2.dtype c.in-Some-2.after.now c.loop-test.true c.in-Some-text_front.ensures
    (ap (option_map (λ x. (type_view x.0, x.1.now))) (sym c.in-Some-2.is) ∙ c.in_ok-dtype.ensures)
    (c.in_ok-push.ensures.items ∙ ap (λ f. c.loop.names.items ++ f ∷ []) c.in_ok-new.ensures) c.in_ok-push-2.ensures.items c.loop.invariant

pub fields_front-returns : goal.fields_front-returns
fields_front-returns t c =
    ap (λ fs. Some (fs, c.loop.rest.now)) c.in_ok-fields_of.ensures
    ∙ fields_end (type_at c.args.deep) (all_fields_with (type_at c.args.deep) c.args.bytes.now) (zipped c.loop.names.items (map type_view c.loop.dtypes.items)) c.in-Some.number c.loop.counter c.loop.rest.now c.loop-test.false c.loop.invariant.so_far

pub type_front-returns-then-deep-eq0 : goal.type_front-returns-then-deep-eq0
unfolding type_at
type_front-returns-then-deep-eq0 t c = rw c.if-deep-eq0.true refl

pub type_front-returns : goal.type_front-returns
type_front-returns t c =
    subst (λ r. IfOk c.tagged_front.result (λ found. option_map (λ x. (type_view x.0, x.1.now)) found ≡ r)) (type_at-step c.args.deep c.args.bytes.now c.if-deep-eq0.false) c.tagged_front.ensures
