use Rattle.std.proofs.Common.{length, refl}
use Rattle.vx_texts.proofs.ComparisonLemmas.{compared_with_tidy, compared_with_truths}
use Rattle.vx_texts.proofs.texts.Texts.compare_with.Goals as goal

pub words_against-requires : goal.words_against-requires
words_against-requires c = c.parts.ensures.tidy.valid_length

pub of_words-requires : goal.of_words-requires
of_words-requires c =
    let ss = c.parts.result.1.now in
    rw (c.in_ok-valid.ensures.items, c.len.ensures)
    (compared_with_tidy c.args.op c.parts.result.0.now c.in_ok-truths.truths.items ss (length ss) c.args.text.now c.args.self.now refl c.parts.ensures.texts c.parts.ensures.tidy
    c.in_ok-truths.ensures)

pub returns : goal.returns
returns c =
    let ss = c.parts.result.1.now in
    rw (c.of_words.ensures, c.in_ok-valid.ensures.items, c.len.ensures)
    (compared_with_truths c.args.op c.parts.result.0.now c.in_ok-truths.truths.items ss (length ss) c.args.text.now c.args.self.now refl c.parts.ensures.texts c.parts.ensures.tidy
    c.in_ok-truths.ensures)
