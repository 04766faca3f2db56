use Rattle.std.proofs.Common.{◌≡◌, true, map, ◌+◌, ◌*◌, take}
use Rattle.std.specs.List.{AllZip}
use Rattle.vx_dtype.specs.TypeRules.{depth_of}
use Rattle.vx_dtype.specs.Fits.{fits}
use Rattle.vx_dtype.specs.RawViews.{raw_view}
use Rattle.vx_dtype.specs.TypeViews.{type_view}
use Rattle.vx_column.proofs.FillerLemmas.{deepest_of}
use Rattle.vx_column.proofs.fillers.+fillers.Given as goal

abbrev pub decreases-filler_of : goal.decreases-filler_of
decreases-filler_of l = 2 * depth_of (type_view l.dtype.now)

abbrev pub decreases-fillers_of : goal.decreases-fillers_of
decreases-fillers_of l = 2 * deepest_of (map type_view l.dtypes.now) + 1

-- the values of the types so far
abbrev pub invariant-fillers_of-loop-dtype : goal.invariant-fillers_of-loop-dtype
invariant-fillers_of-loop-dtype l = AllZip (λ t x. fits (raw_view x) (type_view t) ≡ true) (take l.dtype-index l.fn.dtypes) l.fillers.items
