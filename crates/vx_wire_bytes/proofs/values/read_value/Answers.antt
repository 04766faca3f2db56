use Rattle.std.proofs.Common.{sym, ap, ◌∙◌, arith}
use Rattle.std.specs.Prelude.{option_map}
use Rattle.vx_dtype.specs.TypeViews.{type_view}
use Rattle.vx_dtype.specs.RawViews.{raw_view}
use Rattle.vx_wire_bytes.specs.ValueReading.{value_at}
use Rattle.vx_wire_bytes.proofs.PlaceFields.{value_there, no_value_there, value_shorter}
use Rattle.vx_wire_bytes.proofs.values.read_value.Goals as goal

pub returns-in_default : goal.returns-in_default
returns-in_default c =
    no_value_there c.args.bytes.now c.args.at (type_view c.args.dtype.now) (ap (option_map (λ x. (raw_view x.0, x.1.now))) (sym c.in_default.is) ∙ c.in_ok-value.ensures ∙ ap (value_at (type_view c.args.dtype.now)) c.bytes_from.ensures)

pub overflow_sub-result : goal.overflow_sub-result
overflow_sub-result c =
    value_shorter c.args.bytes.now c.args.at (type_view c.args.dtype.now) (raw_view c.in-Some.value) c.in-Some.rest.now (λ i. omega (arith, c.type_inv.bytes i))
    (ap (option_map (λ x. (raw_view x.0, x.1.now))) (sym c.in-Some.is) ∙ c.in_ok-value.ensures ∙ ap (value_at (type_view c.args.dtype.now)) c.bytes_from.ensures)

pub returns : goal.returns
returns c =
    value_there c.args.bytes.now c.args.at (type_view c.args.dtype.now) (raw_view c.in-Some.value) c.in-Some.rest.now (λ i. omega (arith, c.type_inv.bytes i)) c.requires
    (ap (option_map (λ x. (raw_view x.0, x.1.now))) (sym c.in-Some.is) ∙ c.in_ok-value.ensures ∙ ap (value_at (type_view c.args.dtype.now)) c.bytes_from.ensures)
