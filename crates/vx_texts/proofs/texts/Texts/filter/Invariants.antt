use Rattle.std.proofs.Common.{◌≡◌, ◌≤◌, ◌-◌, ◌++◌, drop, length}
use Rattle.vx_words.specs.Truths.{kept_items}
use Rattle.vx_texts.proofs.texts.Texts.filter.Given as goal

-- what is kept so far, and what is kept of the texts from the place on
abbrev pub invariant-kept : goal.invariant-kept
invariant-kept l = (l.from ≤ length l.keep) × (l.kept ++ kept_items (drop l.from l.self) (drop l.from l.keep) ≡ kept_items l.self l.keep)

abbrev pub decreases-kept : goal.decreases-kept
decreases-kept l = length l.keep - l.from
