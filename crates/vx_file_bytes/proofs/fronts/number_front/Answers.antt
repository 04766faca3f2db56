use Rattle.std.proofs.Common.{Some, ap, ◌∙◌, arith}
use Rattle.vx_wire_bytes.specs.Fields.{IsNumber}
use Rattle.vx_wire_bytes.specs.Numbers.{number_bytes}
use Rattle.vx_wire_bytes.specs.Reading.{number_at}
use Rattle.vx_laws_file.proofs.Readers.{number_reader}
use Rattle.vx_file_bytes.proofs.FrontLemmas.{front_read, no_front_read}
use Rattle.vx_file_bytes.proofs.fronts.number_front.Goals as goal

pub returns-in_default : goal.returns-in_default
returns-in_default c = no_front_read number_bytes IsNumber number_at number_reader c.args.bytes.now (λ i. omega (arith, c.type_inv.bytes i)) c.in_default.ensures

pub returns : goal.returns
returns c =
    ap (λ r. Some (c.in-Some.number, r)) c.split_at.ensures.back
    ∙ front_read number_bytes IsNumber number_at number_reader c.args.bytes.now c.in-Some.number c.in-Some.after c.in-Some.ensures
