use Rattle.std.proofs.Common.{length, ◌-◌, Some, sym, subst, ap, ◌∙◌, arith}
use Rattle.vx_wire_bytes.specs.Numbers.{piece_bytes}
use Rattle.vx_wire_bytes.specs.Fields.{IsFieldAt, IsText}
use Rattle.vx_wire_bytes.specs.Reading.{text_at}
use Rattle.vx_wire_bytes.proofs.PlaceFields.{text_there, no_text_there, text_shorter}
use Rattle.vx_wire_bytes.proofs.fields_at_places.read_text.Goals as goal

pub returns-in_default : goal.returns-in_default
returns-in_default c = no_text_there c.args.bytes.now c.args.at (c.in_default.ensures ∙ ap text_at c.bytes_from.ensures)

pub overflow_sub-after : goal.overflow_sub-after
overflow_sub-after c = text_shorter c.args.bytes.now c.args.at c.in-Some.text.now c.in-Some.rest.now (λ i. omega (arith, c.type_inv.bytes i)) (c.in-Some.ensures ∙ ap text_at c.bytes_from.ensures)

pub returns : goal.returns
returns c =
    subst (λ t. IsFieldAt piece_bytes IsText c.args.bytes.now c.args.at (Some (t, length c.args.bytes.now - length c.in-Some.rest.now))) (sym c.in_ok-new.ensures)
    (text_there c.args.bytes.now c.args.at c.in-Some.text.now c.in-Some.rest.now (λ i. omega (arith, c.type_inv.bytes i)) c.requires (c.in-Some.ensures ∙ ap text_at c.bytes_from.ensures))
