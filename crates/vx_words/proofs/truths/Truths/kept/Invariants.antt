use Rattle.std.proofs.Common.{◌≡◌, ℕ, ◌+◌, ◌-◌, ◌*◌, ◌<◌, ◌≤◌, ◌++◌, get_or, drop, w64}
use Rattle.std.specs.Int.{trailing_zeros}
use Rattle.vx_words.specs.Words.{word_bit}
use Rattle.vx_words.specs.Truths.{kept_items}
use Rattle.vx_words.proofs.truths.Truths.kept.Given as goal

abbrev pub invariant-words : goal.invariant-words
invariant-words g l = l.kept.items ++ kept_items (drop (64 * l.k) l.items) (drop (64 * l.k) l.self) ≡ kept_items l.items l.self

-- the word has the bits of the list's from its lowest on; what stands before the place of that bit is kept
abbrev pub invariant-bits : goal.invariant-bits
invariant-bits g l =
    let next : ℕ = 64 * l.k + trailing_zeros w64 l.word in
    ((j : ℕ) → trailing_zeros w64 l.word ≤ j → j < 64 → word_bit l.word j ≡ word_bit (get_or l.truths l.k 0) j)
    × (l.kept.items ++ kept_items (drop next l.items) (drop next l.self) ≡ kept_items l.items l.self)

abbrev pub decreases-bits : goal.decreases-bits
decreases-bits g l = 64 - trailing_zeros w64 l.word
