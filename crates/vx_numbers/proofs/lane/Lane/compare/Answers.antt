use Rattle.std.proofs.Common.{length, map, arith, ◌∙◌, ap}
use Rattle.std.proofs.lemmas.List.{length-map}
use Rattle.vx_words.specs.Truths.{words_for}
use Rattle.vx_numbers.proofs.PlaceLemmas.{length_seen}
use Rattle.vx_numbers.proofs.ComparisonLemmas.{compared_tidy, compared_truths}
use Rattle.vx_numbers.proofs.lane.Lane.compare.Goals as goal

pub both-requires : goal.both-requires
both-requires g c =
    let l = c.parts.ensures in
    let r = c.parts-2.ensures in
    let p = length_seen _ _ _ l.numbers in
    let q = length_seen _ _ _ r.numbers in
    let v = l.tidy.valid_length in
    let w = r.tidy.valid_length in
    omega arith

pub words-requires-clause-known : goal.words-requires-clause-known
words-requires-clause-known g c =
    ap length c.as_slice.ensures.value ∙ c.in_ok-valid.ensures.lengths ∙ c.parts.ensures.tidy.valid_length
    ∙ ap words_for (length-map c.parts.result.1.now g.T.Width.value)

pub words-requires-clause-as_many : goal.words-requires-clause-as_many
words-requires-clause-as_many g c =
    let p = length_seen _ _ _ c.parts.ensures.numbers in
    let q = length_seen _ _ _ c.parts-2.ensures.numbers in
    let m = length-map c.parts.result.1.now g.T.Width.value in
    let n = length-map c.parts-2.result.1.now g.T.Width.value in
    omega arith

pub of_words-requires : goal.of_words-requires
of_words-requires g c =
    let l = c.parts.ensures in
    let r = c.parts-2.ensures in
    compared_tidy g.O.Operator.operator c.parts.result.0.now c.parts-2.result.0.now c.in_ok-valid.valid.items c.in_ok-truths.truths.items
    (map g.T.Width.value c.parts.result.1.now) (map g.T.Width.value c.parts-2.result.1.now) (length c.parts.result.1.now) c.args.self.now c.args.other.now
    (length-map c.parts.result.1.now g.T.Width.value) l.numbers l.tidy r.numbers c.requires c.in_ok-valid.ensures.bits
    (rw c.as_slice.ensures.value at c.in_ok-truths.ensures) c.in_ok-valid.ensures.lengths

pub returns : goal.returns
returns g c =
    let l = c.parts.ensures in
    let r = c.parts-2.ensures in
    c.of_words.ensures
    ∙ compared_truths g.O.Operator.operator c.parts.result.0.now c.parts-2.result.0.now c.in_ok-valid.valid.items c.in_ok-truths.truths.items
    (map g.T.Width.value c.parts.result.1.now) (map g.T.Width.value c.parts-2.result.1.now) (length c.parts.result.1.now) c.args.self.now c.args.other.now
    (length-map c.parts.result.1.now g.T.Width.value) l.numbers l.tidy r.numbers c.requires c.in_ok-valid.ensures.bits
    (rw c.as_slice.ensures.value at c.in_ok-truths.ensures)
