use Rattle.std.proofs.Common.{sym, ap, ◌∙◌, arith}
use Rattle.std.specs.Prelude.{option_map}
use Rattle.vx_dtype.specs.TypeViews.{type_view}
use Rattle.vx_dtype.specs.TypeRules.{most_deep}
use Rattle.vx_wire_bytes.specs.TypeReading.{type_at}
use Rattle.vx_wire_bytes.proofs.PlaceFields.{type_there, no_type_there, type_shorter}
use Rattle.vx_wire_bytes.proofs.types.read_type.Goals as goal

pub returns-in_default : goal.returns-in_default
returns-in_default c =
    no_type_there c.args.bytes.now c.args.at (ap (option_map (λ x. (type_view x.0, x.1.now))) (sym c.in_default.is) ∙ c.in_ok-dtype.ensures ∙ ap (type_at most_deep) c.bytes_from.ensures)

pub overflow_sub-result : goal.overflow_sub-result
overflow_sub-result c =
    type_shorter c.args.bytes.now c.args.at (type_view c.in-Some.dtype) c.in-Some.rest.now (λ i. omega (arith, c.type_inv.bytes i))
    (ap (option_map (λ x. (type_view x.0, x.1.now))) (sym c.in-Some.is) ∙ c.in_ok-dtype.ensures ∙ ap (type_at most_deep) c.bytes_from.ensures)

pub returns : goal.returns
returns c =
    type_there c.args.bytes.now c.args.at (type_view c.in-Some.dtype) c.in-Some.rest.now (λ i. omega (arith, c.type_inv.bytes i)) c.requires
    (ap (option_map (λ x. (type_view x.0, x.1.now))) (sym c.in-Some.is) ∙ c.in_ok-dtype.ensures ∙ ap (type_at most_deep) c.bytes_from.ensures)
