use Rattle.std.proofs.Common.{sym, arith}
use Rattle.vx_texts.proofs.NullCounts.{bits_and_nulls}
use Rattle.vx_texts.proofs.texts.Texts.null_count.Goals as goal

pub bit_count-requires : goal.bit_count-requires
bit_count-requires c =
    let all = bits_and_nulls c.parts.result.0.now c.parts.result.1.now c.len.result c.args.self.now (sym c.len.ensures) c.parts.ensures.texts c.parts.ensures.tidy in
    let fits = c.len.type_inv in
    omega (arith, all)

pub overflow_sub-result : goal.overflow_sub-result
overflow_sub-result c =
    let all = bits_and_nulls c.parts.result.0.now c.parts.result.1.now c.len.result c.args.self.now (sym c.len.ensures) c.parts.ensures.texts c.parts.ensures.tidy in
    omega (arith, all, c.bit_count.ensures)

pub returns : goal.returns
returns c =
    let all = bits_and_nulls c.parts.result.0.now c.parts.result.1.now c.len.result c.args.self.now (sym c.len.ensures) c.parts.ensures.texts c.parts.ensures.tidy in
    omega (arith, all, c.bit_count.ensures)
