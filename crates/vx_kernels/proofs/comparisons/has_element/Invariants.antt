use Rattle.std.proofs.Common.{◌≡◌, drop, map}
use Rattle.vx_dtype.specs.RawViews.{raw_view, raws_of}
use Rattle.vx_kernels.specs.RawRules.{raws_have}
use Rattle.vx_kernels.proofs.comparisons.has_element.Given as goal

-- what is left to look at
abbrev pub invariant-loop-item : goal.invariant-loop-item
invariant-loop-item l = raws_have (raws_of (map raw_view l.fn.items)) (raw_view l.fn.value) ≡ raws_have (raws_of (map raw_view (drop l.item-index l.fn.items))) (raw_view l.fn.value)
