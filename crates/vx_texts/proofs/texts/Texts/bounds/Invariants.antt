use Rattle.std.proofs.Common.{◌≡◌, ◌≤◌, length, drop, option_copied}
use Rattle.vx_texts.specs.Bounds.{least_text, greatest_text}
use Rattle.vx_texts.proofs.texts.Texts.bounds.Given as goal

-- the bounds of the texts from the place on
abbrev pub invariant-loop-left : goal.invariant-loop-left
invariant-loop-left l =
    (l.left ≤ length l.fn.self)
    × (option_copied l.least ≡ least_text (drop l.left l.fn.self))
    × (option_copied l.greatest ≡ greatest_text (drop l.left l.fn.self))

-- how many texts are left
abbrev pub decreases-loop-left : goal.decreases-loop-left
decreases-loop-left l = l.left
