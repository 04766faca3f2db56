use Rattle.std.proofs.Common.{ap, ◌∙◌, arith}
use Rattle.vx_wire_bytes.specs.Reading.{number_at}
use Rattle.vx_wire_bytes.proofs.PlaceFields.{number_there, no_number_there, number_shorter}
use Rattle.vx_wire_bytes.proofs.fields_at_places.read_number.Goals as goal

pub returns-in_err-number : goal.returns-in_err-number
returns-in_err-number c = rw c.from_residual.ensures (no_number_there c.args.bytes.now c.args.at (c.in_err-number.ensures ∙ ap number_at c.bytes_from.ensures))

pub overflow_sub-result : goal.overflow_sub-result
overflow_sub-result c = number_shorter c.args.bytes.now c.args.at c.in_ok-number.number c.in_ok-number.rest.now (λ i. omega (arith, c.type_inv.bytes i)) (c.in_ok-number.ensures ∙ ap number_at c.bytes_from.ensures)

pub returns : goal.returns
returns c = number_there c.args.bytes.now c.args.at c.in_ok-number.number c.in_ok-number.rest.now (λ i. omega (arith, c.type_inv.bytes i)) c.requires (c.in_ok-number.ensures ∙ ap number_at c.bytes_from.ensures)
