use Rattle.std.proofs.Common.{◌<◌, length, arith}
use Rattle.std.proofs.lemmas.List.{length-map}
use Rattle.vx_numbers.proofs.PlaceLemmas.{place_within, number_there, null_there, value_read}
use Rattle.vx_numbers.proofs.lane.Lane.value_at.Goals as goal

pub bit-requires : goal.bit-requires
bit-requires g c = (place_within _ _ _ c.parts.ensures.numbers c.args.i c.parts.ensures.tidy c.requires).0

pub returns-then-not-bit : goal.returns-then-not-bit
returns-then-not-bit g c = null_there _ _ _ c.parts.ensures.numbers c.args.i _ c.requires c.bit.ensures c.if-not-bit.true

pub returns : goal.returns
returns g c =
    let within = (place_within _ _ _ c.parts.ensures.numbers c.args.i c.parts.ensures.tidy c.requires).1 in
    let mapped = length-map c.parts.result.1.now g.T.Width.value in
    let low : c.args.i < length c.parts.result.1.now = omega arith in
    number_there _ _ _ c.parts.ensures.numbers c.args.i _ _ c.requires c.bit.ensures c.if-not-bit.false
    (value_read g.T.Width.value c.parts.result.1.now c.args.i c.index-values-i.result low c.index-values-i.is)
