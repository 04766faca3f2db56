use Rattle.std.proofs.Common.{◌∙◌, ap, sym, ◌*◌, length, arith}
use Rattle.std.specs.List.{range_with_len}
use Rattle.std.specs.Prelude.{count_by}
use Rattle.vx_words.specs.Words.{bit_of}
use Rattle.vx_words.specs.Truths.{is_true}
use Rattle.vx_words.proofs.CountLemmas.{count_seen, count_within}
use Rattle.vx_words.proofs.truths.Truths.true_count.Goals as goal

pub bit_count-count-requires : goal.bit_count-count-requires
bit_count-count-requires c =
    let most = count_within _ _ c.as_slice.result.now c.self.inside.len c.self.invariant c.as_slice.ensures.value in
    omega arith

pub prove-unreachable-requires : goal.prove-unreachable-requires
prove-unreachable-requires c =
    let more = c.if-prove.true in
    let most = count_within _ _ c.as_slice.result.now c.self.inside.len c.self.invariant c.as_slice.ensures.value in
    omega (arith, c.bit_count-count.ensures)

pub returns : goal.returns
returns c =
    c.bit_count-count.ensures
    ∙ ap (λ b. count_by (bit_of b) (range_with_len 0 (64 * length b))) c.as_slice.ensures.value
    ∙ sym (count_seen c.self.inside.valid.items c.self.inside.values.items c.self.inside.len c.self.invariant)
    ∙ ap (count_by is_true) c.self.view_is
