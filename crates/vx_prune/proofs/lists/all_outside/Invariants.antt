use Rattle.std.proofs.Common.{◌≡◌, map, drop}
use Rattle.vx_dtype.specs.RawViews.{raw_view, raws_of}
use Rattle.vx_dtype.specs.TypeViews.{type_view}
use Rattle.vx_passes.specs.Falsifying.{all_outside_after}
use Rattle.vx_prune.specs.Elements.{all_outside}
use Rattle.vx_prune.proofs.lists.all_outside.Given as goal

-- the elements so far are joined, and those from the place on are left
abbrev pub invariant-loop-i : goal.invariant-loop-i
invariant-loop-i l =
    all_outside_after l.greatest l.least (type_view l.dtype) l.joined (raws_of (map raw_view (drop l.i l.elements)))
    ≡ all_outside l.greatest l.least (type_view l.dtype) (raws_of (map raw_view l.elements))
