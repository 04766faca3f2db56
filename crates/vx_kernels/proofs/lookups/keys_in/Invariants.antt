use Rattle.std.proofs.Common.{◌≡◌, map, drop, ◌||◌}
use Rattle.vx_dtype.specs.Values.{Raw}
use Rattle.vx_dtype.specs.RawViews.{raw_view, raws_of}
use Rattle.vx_kernels.specs.RawRules.{raws_have}
use Rattle.vx_kernels.specs.Lookups.{keys_have}
use Rattle.vx_kernels.proofs.lookups.keys_in.Given as goal

-- the keys so far, and what is left to look at
abbrev pub invariant-loop-item : goal.invariant-loop-item
invariant-loop-item l = (v : Raw) → raws_have (raws_of (map raw_view l.fn.items)) v ≡ (keys_have l.keys.items v || raws_have (raws_of (map raw_view (drop l.item-index l.fn.items))) v)
