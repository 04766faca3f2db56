use Rattle.std.proofs.Common.{◌∙◌, ◌<◌, ◌++◌, ◌∷◌, [], ap, sym, ℕ, List, length, arith}
use Rattle.vx_topk.proofs.SkipLemmas.{numbers-more}
use Rattle.vx_topk.proofs.tops.block_numbers.Goals as goal

pub loop-block-preserved : goal.loop-block-preserved
loop-block-preserved c =
    let i = c.loop-block.block in
    let lengths = c.args.lengths.now in
    let less : i < length lengths = omega (arith, c.loop-block-test.true) in
    c.in_ok-push.ensures.items ∙ ap (λ (ns : List ℕ). ns ++ i ∷ []) c.loop-block.invariant ∙ sym (numbers-more i lengths less)
