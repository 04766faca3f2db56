use Rattle.std.proofs.Common.{◌∙◌, ap, sym, ◌+◌, arith}
use Rattle.std.specs.Prelude.{count_ones}
use Rattle.std.specs.Prelude.{slice_index_or}
use Rattle.vx_words.proofs.CountLemmas.{count_more, count_more_within}
use Rattle.vx_words.proofs.bits.bit_count.Goals as goal

pub overflow_add-count : goal.overflow_add-count
overflow_add-count c =
    let so_far = c.words.invariant in
    let most = c.requires in
    let more = count_more_within c.args.words.now c.words.word-index c.words-test.true (c.type_inv.words c.words.word-index) in
    record { fits = omega arith }

pub words-preserved : goal.words-preserved
words-preserved c =
    ap (λ n. n + count_ones (slice_index_or c.args.words.now c.words.word-index 0)) c.words.invariant
    ∙ sym (count_more c.args.words.now c.words.word-index (c.type_inv.words c.words.word-index))
