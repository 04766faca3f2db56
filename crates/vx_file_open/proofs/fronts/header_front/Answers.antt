use Rattle.std.proofs.Common.{◌≡◌, length, subst, arith, Some, None, option_map}
use Rattle.vx_file_bytes.specs.HeaderViews.{header_view}
use Rattle.vx_file_bytes.specs.ReadingAnswers.{IsHeaderRead}
use Rattle.vx_file_ranges.specs.Places.{IsPieceAt}
use Rattle.vx_file_open.proofs.FrontLemmas.{number_at_is, number_there, place_small, short_is_none, unread_is_none, front_stands}
use Rattle.vx_file_open.proofs.fronts.header_front.Goals as goal

pub read_piece-requires : goal.read_piece-requires
read_piece-requires g c = place_small c.in-Some.number c.in-Some.place (number_at_is c.in_ok-number.field-0 c.in-Some.number c.in-Some.place c.in-Some.is c.in_ok-number.ensures.found)

pub returns-then-len-count-clause-stands : goal.returns-then-len-count-clause-stands
returns-then-len-count-clause-stands g c =
    let told = g.R.Ranged.bytes c.args.source.now in
    let at = number_at_is c.in_ok-number.field-0 c.in-Some.number c.in-Some.place c.in-Some.is c.in_ok-number.ensures.found in
    let there = number_there told c.in_ok-number.field-0 c.in-Some.number c.in-Some.place c.in-Some.is c.in_ok-number.ensures.stands in
    let piece = subst (λ o. IsPieceAt o c.in-Some.place c.in-Some.number c.in_ok-piece.piece.items) c.in_ok-number.ensures.same c.in_ok-piece.ensures.piece in
    short_is_none told c.in-Some.number c.in-Some.place c.in_ok-piece.piece.items at there piece (omega (arith, c.if-len-count.true, c.len.ensures, c.in_ok-piece.piece.ok))

pub returns-in_default-2-clause-stands : goal.returns-in_default-2-clause-stands
returns-in_default-2-clause-stands g c =
    let told = g.R.Ranged.bytes c.args.source.now in
    let at = number_at_is c.in_ok-number.field-0 c.in-Some.number c.in-Some.place c.in-Some.is c.in_ok-number.ensures.found in
    let there = number_there told c.in_ok-number.field-0 c.in-Some.number c.in-Some.place c.in-Some.is c.in_ok-number.ensures.stands in
    let piece = subst (λ o. IsPieceAt o c.in-Some.place c.in-Some.number c.in_ok-piece.piece.items) c.in_ok-number.ensures.same c.in_ok-piece.ensures.piece in
    let read : IsHeaderRead c.in_ok-piece.piece.items None = subst (λ o. IsHeaderRead c.in_ok-piece.piece.items (option_map header_view o)) c.in_default-2.is (subst (λ xs. IsHeaderRead xs (option_map header_view c.in_ok-header.field-0)) c.as_slice.ensures.value c.in_ok-header.ensures) in
    unread_is_none told c.in-Some.number c.in-Some.place c.in_ok-piece.piece.items at there piece read

pub overflow_add-result : goal.overflow_add-result
overflow_add-result g c = omega (arith, place_small c.in-Some.number c.in-Some.place (number_at_is c.in_ok-number.field-0 c.in-Some.number c.in-Some.place c.in-Some.is c.in_ok-number.ensures.found))

pub returns-clause-stands : goal.returns-clause-stands
returns-clause-stands g c =
    let told = g.R.Ranged.bytes c.args.source.now in
    let at = number_at_is c.in_ok-number.field-0 c.in-Some.number c.in-Some.place c.in-Some.is c.in_ok-number.ensures.found in
    let there = number_there told c.in_ok-number.field-0 c.in-Some.number c.in-Some.place c.in-Some.is c.in_ok-number.ensures.stands in
    let piece = subst (λ o. IsPieceAt o c.in-Some.place c.in-Some.number c.in_ok-piece.piece.items) c.in_ok-number.ensures.same c.in_ok-piece.ensures.piece in
    let read : IsHeaderRead c.in_ok-piece.piece.items (Some (header_view c.in-Some-2.header)) = subst (λ o. IsHeaderRead c.in_ok-piece.piece.items (option_map header_view o)) c.in-Some-2.is (subst (λ xs. IsHeaderRead xs (option_map header_view c.in_ok-header.field-0)) c.as_slice.ensures.value c.in_ok-header.ensures) in
    let whole : length c.in_ok-piece.piece.items ≡ c.in-Some.number = omega (arith, c.if-len-count.false, c.len.ensures, c.in_ok-piece.piece.ok, c.in_ok-piece.ensures.within) in
    front_stands told c.in-Some.number c.in-Some.place c.in_ok-piece.piece.items (header_view c.in-Some-2.header) at there piece read whole
