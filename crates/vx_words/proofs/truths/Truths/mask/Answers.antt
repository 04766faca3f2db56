use Rattle.std.proofs.Common.{arith}
use Rattle.vx_words.proofs.HiddenLemmas.{hidden_tidy, hidden_truths}
use Rattle.vx_words.proofs.truths.Truths.mask.Goals as goal

pub without-requires : goal.without-requires
without-requires c =
    let p = c.words.ensures.tidy.valid_length in
    let q = c.words-2.ensures.tidy.values_length in
    let same = c.requires in
    omega arith

pub without-requires-2 : goal.without-requires-2
without-requires-2 c =
    let p = c.words.ensures.tidy.values_length in
    let q = c.words-2.ensures.tidy.values_length in
    let same = c.requires in
    omega arith

pub of_words-requires : goal.of_words-requires
of_words-requires c =
    rw c.len.ensures
    (hidden_tidy c.words.result.0.now c.words.result.1.now c.in_ok-known.known.items c.in_ok-made.made.items c.words-2.result.0.now c.words-2.result.1.now
    c.args.self.now c.args.nulls.now c.requires c.words.ensures.truths c.words.ensures.tidy c.words-2.ensures.truths c.words-2.ensures.tidy
    c.in_ok-known.ensures.bits c.in_ok-made.ensures.bits c.in_ok-known.ensures.lengths c.in_ok-made.ensures.lengths)

pub returns : goal.returns
returns c =
    rw (c.of_words.ensures, c.len.ensures)
    (hidden_truths c.words.result.0.now c.words.result.1.now c.in_ok-known.known.items c.in_ok-made.made.items c.words-2.result.0.now c.words-2.result.1.now
    c.args.self.now c.args.nulls.now c.requires c.words.ensures.truths c.words.ensures.tidy c.words-2.ensures.truths c.words-2.ensures.tidy
    c.in_ok-known.ensures.bits c.in_ok-made.ensures.bits)
