use Rattle.std.proofs.Common.{◌≡◌, length, map, drop}
use Rattle.vx_dtype.specs.Zipped.{zipped}
use Rattle.vx_dtype.specs.Fits.{all_fit, fields_fit}
use Rattle.vx_dtype.specs.TypeViews.{type_view}
use Rattle.vx_dtype.specs.RawViews.{raw_view, raws_of}
use Rattle.vx_dtype.proofs.types.fitting.+fitting.Given as goal

-- what is left to test
abbrev pub invariant-all_fit-loop-i : goal.invariant-all_fit-loop-i
invariant-all_fit-loop-i l =
    all_fit (raws_of (map raw_view l.values)) (type_view l.dtype) ≡ all_fit (raws_of (map raw_view (drop l.i l.values))) (type_view l.dtype)

-- what is left to test
abbrev pub invariant-fields_fit-loop-i : goal.invariant-fields_fit-loop-i
invariant-fields_fit-loop-i l =
    (length l.values ≡ length l.fields-inside.dtypes.value.items)
    × (fields_fit (raws_of (map raw_view l.values)) l.fields ≡ fields_fit (raws_of (map raw_view (drop l.i l.values))) (zipped (drop l.i l.fields-inside.names) (map type_view (drop l.i l.fields-inside.dtypes.value.items))))
