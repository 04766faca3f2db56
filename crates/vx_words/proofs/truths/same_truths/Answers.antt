use Rattle.std.proofs.Common.{◌≡◌, length, true, arith}
use Rattle.vx_words.proofs.ListLemmas.{truths_by_bits, bits_by_truths}
use Rattle.vx_words.proofs.truths.same_truths.Goals as goal

pub same_bits-requires : goal.same_bits-requires
same_bits-requires c =
    let p = c.words.ensures.tidy.valid_length in
    let q = c.words-2.ensures.tidy.valid_length in
    let long : length c.args.l.now ≡ length c.args.r.now = omega arith in
    omega arith

pub returns-then-not-same_bits : goal.returns-then-not-same_bits
returns-then-not-same_bits c =
    let long : length c.args.l.now ≡ length c.args.r.now = omega arith in
    let l = c.words.ensures in
    let r = c.words-2.ensures in (
      λ n. cc,
      λ same.
          let alike : c.same_bits.result ≡ true =
          c.same_bits.ensures.1
          (bits_by_truths c.words.result.0.now c.words.result.1.now c.words-2.result.0.now c.words-2.result.1.now c.args.l.now c.args.r.now long
          l.truths l.tidy r.truths r.tidy same).0 in
          cc,
    )

pub returns : goal.returns
returns c =
    let long : length c.args.l.now ≡ length c.args.r.now = omega arith in
    let l = c.words.ensures in
    let r = c.words-2.ensures in (
      λ alike.
          truths_by_bits c.words.result.0.now c.words.result.1.now c.words-2.result.0.now c.words-2.result.1.now c.args.l.now c.args.r.now long
          l.truths l.tidy r.truths r.tidy (c.same_bits.ensures.0 c.if-not-same_bits.false) (c.same_bits-2.ensures.0 alike),
      λ same.
          c.same_bits-2.ensures.1
          (bits_by_truths c.words.result.0.now c.words.result.1.now c.words-2.result.0.now c.words-2.result.1.now c.args.l.now c.args.r.now long
          l.truths l.tidy r.truths r.tidy same).1,
    )
