use Rattle.std.proofs.Common.{◌≡◌, [], length}
use Rattle.vx_transform.specs.CodeViews.{Waits}
use Rattle.vx_transform.specs.Pairs.{all_taken_in}
use Rattle.vx_transform.proofs.pairing.with_ranges.Given as goal

-- what is made of all is what is made of those that are left, taken in one after another
abbrev pub invariant-loop-conjunct : goal.invariant-loop-conjunct
invariant-loop-conjunct l = (all_taken_in [] l.fn.conjuncts.items ≡ all_taken_in l.made.items l.left.items) × Waits l.waiting l.made.items

abbrev pub decreases-loop-conjunct : goal.decreases-loop-conjunct
decreases-loop-conjunct l = length l.left.items
