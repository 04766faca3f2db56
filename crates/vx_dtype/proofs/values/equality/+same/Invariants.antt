use Rattle.std.proofs.Common.{◌≡◌, length, map, drop}
use Rattle.vx_dtype.specs.Equal.{raws_eq}
use Rattle.vx_dtype.specs.RawViews.{raw_view, raws_of}
use Rattle.vx_dtype.proofs.values.equality.+same.Given as goal

-- what is left to compare
abbrev pub invariant-same_values-loop-i : goal.invariant-same_values-loop-i
invariant-same_values-loop-i l =
    (length l.left ≡ length l.right)
    × (raws_eq (raws_of (map raw_view l.left)) (raws_of (map raw_view l.right)) ≡ raws_eq (raws_of (map raw_view (drop l.i l.left))) (raws_of (map raw_view (drop l.i l.right))))
