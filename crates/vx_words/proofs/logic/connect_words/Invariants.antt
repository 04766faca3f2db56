use Rattle.std.proofs.Common.{ℕ, ◌*◌, ◌<◌}
use Rattle.vx_words.specs.Connectives.{connected3}
use Rattle.vx_words.specs.Words.{val_of_words, Holds}
use Rattle.vx_words.proofs.logic.connect_words.Given as goal

abbrev pub invariant-vectors : goal.invariant-vectors
invariant-vectors l = (i : ℕ) → i < 64 * (l.j * 4) → Holds l.ov l.ob i (connected3 l.connective (val_of_words l.lv l.lb i) (val_of_words l.rv l.rb i))

abbrev pub invariant-words : goal.invariant-words
invariant-words l = (i : ℕ) → i < 64 * l.k → Holds l.ov l.ob i (connected3 l.connective (val_of_words l.lv l.lb i) (val_of_words l.rv l.rb i))
