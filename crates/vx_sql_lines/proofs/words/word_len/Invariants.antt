use Rattle.std.proofs.Common.{◌≡◌, ◌+◌, ◌≤◌, length}
use Rattle.std.specs.List.{prefix_len}
use Rattle.vx_sql_lines.specs.Lines.{is_of_word}
use Rattle.vx_sql_lines.proofs.words.word_len.Given as goal

abbrev pub decreases-loop-left : goal.decreases-loop-left
decreases-loop-left l = length l.left

-- the bytes that were gone over are of a word
abbrev pub invariant-loop-left : goal.invariant-loop-left
invariant-loop-left l =
    (prefix_len is_of_word l.fn.text + length l.left ≡ prefix_len is_of_word l.left + length l.fn.text) × (length l.left ≤ length l.fn.text)
