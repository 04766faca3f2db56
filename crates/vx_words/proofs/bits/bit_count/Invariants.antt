use Rattle.std.proofs.Common.{◌≡◌, ◌*◌}
use Rattle.std.specs.List.{range_with_len}
use Rattle.std.specs.Prelude.{count_by}
use Rattle.vx_words.specs.Words.{bit_of}
use Rattle.vx_words.proofs.bits.bit_count.Given as goal

abbrev pub invariant-words : goal.invariant-words
invariant-words l = l.count ≡ count_by (bit_of l.words) (range_with_len 0 (64 * l.word-index))
