use Rattle.std.proofs.Common.{length, refl, arith, ◌∙◌, ap}
use Rattle.vx_texts.proofs.PlaceLemmas.{length_seen}
use Rattle.vx_texts.proofs.ComparisonLemmas.{compared_tidy, compared_truths}
use Rattle.vx_texts.proofs.texts.Texts.compare.Goals as goal

pub both-requires : goal.both-requires
both-requires c =
    let p = length_seen _ _ _ c.parts.ensures.texts in
    let q = length_seen _ _ _ c.parts-2.ensures.texts in
    let v = c.parts.ensures.tidy.valid_length in
    let w = c.parts-2.ensures.tidy.valid_length in
    omega (arith, c.requires)

pub pair_words-requires-clause-known : goal.pair_words-requires-clause-known
pair_words-requires-clause-known c = ap length c.as_slice.ensures.value ∙ c.in_ok-valid.ensures.lengths ∙ c.parts.ensures.tidy.valid_length

pub pair_words-requires-clause-as_many : goal.pair_words-requires-clause-as_many
pair_words-requires-clause-as_many c =
    let p = length_seen _ _ _ c.parts.ensures.texts in
    let q = length_seen _ _ _ c.parts-2.ensures.texts in
    omega (arith, c.requires)

pub of_words-requires : goal.of_words-requires
of_words-requires c =
    let ls = c.parts.result.1.now in
    rw c.len.ensures
    (compared_tidy c.args.op c.parts.result.0.now c.parts-2.result.0.now c.in_ok-valid.valid.items c.in_ok-truths.truths.items ls c.parts-2.result.1.now (length ls)
    c.args.self.now c.args.other.now refl c.parts.ensures.texts c.parts.ensures.tidy c.parts-2.ensures.texts c.requires c.in_ok-valid.ensures.bits
    (rw c.as_slice.ensures.value at c.in_ok-truths.ensures) c.in_ok-valid.ensures.lengths)

pub returns : goal.returns
returns c =
    let ls = c.parts.result.1.now in
    rw (c.of_words.ensures, c.len.ensures)
    (compared_truths c.args.op c.parts.result.0.now c.parts-2.result.0.now c.in_ok-valid.valid.items c.in_ok-truths.truths.items ls c.parts-2.result.1.now (length ls)
    c.args.self.now c.args.other.now refl c.parts.ensures.texts c.parts.ensures.tidy c.parts-2.ensures.texts c.requires c.in_ok-valid.ensures.bits
    (rw c.as_slice.ensures.value at c.in_ok-truths.ensures))
