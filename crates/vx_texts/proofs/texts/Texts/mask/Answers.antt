use Rattle.std.proofs.Common.{length, arith, ◌∙◌, ap}
use Rattle.vx_texts.proofs.MaskLemmas.{masked_tidy, masked_texts}
use Rattle.vx_texts.proofs.PlaceLemmas.{length_seen}
use Rattle.vx_texts.proofs.texts.Texts.mask.Goals as goal

pub without-requires : goal.without-requires
without-requires c =
    let long = length_seen _ _ _ c.self.view_is in
    let p = c.self.invariant.valid_length in
    let q = c.words.ensures.tidy.values_length in
    let same = c.requires in
    let read = ap length c.as_slice.ensures.value in
    omega arith

pub invariant_of-result : goal.invariant_of-result
invariant_of-result c =
    rw c.in_ok-values.ensures.cases
    (masked_tidy c.self.inside.valid.items c.in_ok-valid.valid.items c.words.result.0.now c.words.result.1.now c.self.inside.values.value
    c.args.self.now c.args.nulls.now c.self.view_is c.self.invariant c.requires c.words.ensures.truths c.words.ensures.tidy
    (rw c.as_slice.ensures.value at c.in_ok-valid.ensures.bits) (c.in_ok-valid.ensures.lengths ∙ ap length c.as_slice.ensures.value))

pub returns : goal.returns
returns c =
    rw c.in_ok-values.ensures.cases
    (masked_texts c.self.inside.valid.items c.in_ok-valid.valid.items c.words.result.0.now c.words.result.1.now c.self.inside.values.value
    c.args.self.now c.args.nulls.now c.self.view_is c.self.invariant c.requires c.words.ensures.truths c.words.ensures.tidy
    (rw c.as_slice.ensures.value at c.in_ok-valid.ensures.bits))
