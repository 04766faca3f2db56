use Rattle.std.proofs.Common.{Some, map, sym, ap, ◌∙◌}
use Rattle.std.specs.Prelude.{option_map}
use Rattle.vx_dtype.specs.TypeRules.{most_deep}
use Rattle.vx_dtype.specs.TypeViews.{type_view}
use Rattle.vx_dtype.specs.Zipped.{zipped}
use Rattle.vx_wire_bytes.specs.TypeReading.{type_at, all_fields_with}
use Rattle.vx_wire_bytes.proofs.FieldLoops.{no_fields_start, no_name, no_type, fields_end, reading_starts, reading_goes_on}
use Rattle.vx_file_bytes.proofs.columns_reading.fields_front.Goals as goal

pub returns-in_default : goal.returns-in_default
returns-in_default c = no_fields_start (type_at most_deep) c.args.bytes.now c.in_default.ensures

pub loop-init : goal.loop-init
loop-init c =
    reading_starts type_view (type_at most_deep) c.args.bytes.now c.in-Some.number c.in-Some.rest.now c.new-names.result.items c.new-dtypes.result.items c.new-names.ensures.items c.new-dtypes.ensures.items c.in-Some.ensures

pub returns-in_default-2 : goal.returns-in_default-2
returns-in_default-2 c =
    no_name (type_at most_deep) (all_fields_with (type_at most_deep) c.args.bytes.now) (zipped c.loop.names.items (map type_view c.loop.dtypes.items)) c.in-Some.number c.loop.counter c.loop.rest.now c.loop-test.true
    (ap (option_map (λ x. (x.0, x.1.now))) (sym c.in_default-2.is) ∙ c.in_ok-name.ensures) c.loop.invariant.so_far

pub returns-in_default-3 : goal.returns-in_default-3
returns-in_default-3 c =
    no_type (type_at most_deep) (all_fields_with (type_at most_deep) c.args.bytes.now) (zipped c.loop.names.items (map type_view c.loop.dtypes.items)) c.in-Some.number c.loop.counter c.loop.rest.now
    c.in-Some-2.name c.in-Some-2.after_name.now c.loop-test.true
    (ap (option_map (λ x. (x.0, x.1.now))) (sym c.in-Some-2.is) ∙ c.in_ok-name.ensures)
    (ap (option_map (λ x. (type_view x.0, x.1.now))) (sym c.in_default-3.is) ∙ c.in_ok-dtype.ensures) c.loop.invariant.so_far

pub loop-preserved : goal.loop-preserved
loop-preserved c =
    reading_goes_on type_view (type_at most_deep) c.args.bytes.now c.in-Some.number c.loop.counter c.loop.rest.now c.loop.names.items c.push.new.self.items c.loop.dtypes.items c.push-in-loop.new.self.items
    c.in-Some-2.name c.in-Some-2.after_name.now c.in-Some-3.dtype c.in-Some-3.after.now c.loop-test.true
    (ap (option_map (λ x. (x.0, x.1.now))) (sym c.in-Some-2.is) ∙ c.in_ok-name.ensures)
    (ap (option_map (λ x. (type_view x.0, x.1.now))) (sym c.in-Some-3.is) ∙ c.in_ok-dtype.ensures)
    c.in_ok-push.ensures.items c.in_ok-push-2.ensures.items c.loop.invariant

pub returns : goal.returns
returns c =
    ap (λ fs. Some (fs, c.loop.rest.now)) c.in_ok-fields_of.ensures
    ∙ fields_end (type_at most_deep) (all_fields_with (type_at most_deep) c.args.bytes.now) (zipped c.loop.names.items (map type_view c.loop.dtypes.items)) c.in-Some.number c.loop.counter c.loop.rest.now c.loop-test.false c.loop.invariant.so_far
