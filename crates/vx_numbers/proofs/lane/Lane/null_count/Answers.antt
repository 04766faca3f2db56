use Rattle.std.proofs.Common.{length, map, arith}
use Rattle.std.proofs.lemmas.List.{length-map}
use Rattle.vx_numbers.proofs.NullCounts.{bits_and_nulls}
use Rattle.vx_numbers.proofs.lane.Lane.null_count.Goals as goal

pub bit_count-requires : goal.bit_count-requires
bit_count-requires g c =
    let f = g.T.Width.value in
    let xs = c.parts.result.1.now in
    let all = bits_and_nulls c.parts.result.0.now (map f xs) (length xs) c.args.self.now (length-map xs f) c.parts.ensures.numbers c.parts.ensures.tidy in
    omega (arith, all)

pub overflow_sub-result : goal.overflow_sub-result
overflow_sub-result g c =
    let f = g.T.Width.value in
    let xs = c.parts.result.1.now in
    let all = bits_and_nulls c.parts.result.0.now (map f xs) (length xs) c.args.self.now (length-map xs f) c.parts.ensures.numbers c.parts.ensures.tidy in
    omega (arith, all, c.bit_count.ensures)

pub returns : goal.returns
returns g c =
    let f = g.T.Width.value in
    let xs = c.parts.result.1.now in
    let all = bits_and_nulls c.parts.result.0.now (map f xs) (length xs) c.args.self.now (length-map xs f) c.parts.ensures.numbers c.parts.ensures.tidy in
    omega (arith, all, c.bit_count.ensures)
