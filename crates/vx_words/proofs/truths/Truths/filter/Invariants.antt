use Rattle.std.proofs.Common.{◌≡◌, ◌≤◌, ◌-◌, ◌++◌, drop, length}
use Rattle.vx_words.specs.Truths.{AreTidy, truths_of_words, kept_items}
use Rattle.vx_words.proofs.truths.Truths.filter.Given as goal

abbrev pub invariant-kept : goal.invariant-kept
invariant-kept l =
    (l.len ≤ l.from)
    × (l.from ≤ length l.keep)
    × AreTidy l.len l.valid.items l.values.items
    × (truths_of_words l.valid.items l.values.items l.len ++ kept_items (drop l.from l.self) (drop l.from l.keep) ≡ kept_items l.self l.keep)

abbrev pub decreases-kept : goal.decreases-kept
decreases-kept l = length l.keep - l.from
