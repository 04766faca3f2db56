use Rattle.std.proofs.Common.{Some, ◌∙◌, subst, arith}
use Rattle.vx_wire_bytes.specs.Fields.{IsFieldAt, IsText}
use Rattle.vx_wire_bytes.specs.Numbers.{piece_bytes}
use Rattle.vx_wire_bytes.specs.Reading.{text_at}
use Rattle.vx_laws_file.proofs.Readers.{text_reader}
use Rattle.vx_file_bytes.proofs.FrontLemmas.{front_read, no_front_read}
use Rattle.vx_file_bytes.proofs.fronts.name_front.Goals as goal

pub returns-in_default : goal.returns-in_default
returns-in_default c =
    no_front_read piece_bytes IsText text_at text_reader c.args.bytes.now (λ i. omega (arith, c.type_inv.bytes i))
    (subst (IsFieldAt piece_bytes IsText c.args.bytes.now 0) c.in_default.is c.in_ok-text.ensures)

pub returns : goal.returns
returns c =
    let name = c.in_ok-new.ensures ∙ c.as_str.ensures in
    (λ i. Some (name i, c.split_at.ensures.back i))
    ∙ front_read piece_bytes IsText text_at text_reader c.args.bytes.now c.in-Some.text c.in-Some.after
    (subst (IsFieldAt piece_bytes IsText c.args.bytes.now 0) c.in-Some.is c.in_ok-text.ensures)
