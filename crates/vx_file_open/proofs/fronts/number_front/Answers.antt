use Rattle.std.proofs.Common.{subst, Some, None}
use Rattle.vx_wire_bytes.specs.Fields.{IsNumber, IsFieldAt}
use Rattle.vx_wire_bytes.specs.Numbers.{number_bytes}
use Rattle.vx_file_open.proofs.FrontLemmas.{number_stands, no_number_stands}
use Rattle.vx_file_open.proofs.fronts.number_front.Goals as goal

pub returns-in-Some-clause-stands : goal.returns-in-Some-clause-stands
returns-in-Some-clause-stands g c =
    let field = subst (λ xs. IsFieldAt number_bytes IsNumber xs 0 (Some (c.in-Some.number, c.in-Some.after))) c.as_slice.ensures.value c.in-Some.ensures in
    number_stands (g.R.Ranged.bytes c.args.source.now) c.in_ok-piece.piece.items c.in-Some.number c.in-Some.after c.in_ok-piece.ensures.piece field

pub returns-clause-stands : goal.returns-clause-stands
returns-clause-stands g c =
    let none = subst (λ xs. IsFieldAt number_bytes IsNumber xs 0 None) c.as_slice.ensures.value c.in-None.ensures in
    no_number_stands (g.R.Ranged.bytes c.args.source.now) c.in_ok-piece.piece.items c.in_ok-piece.ensures.piece none
