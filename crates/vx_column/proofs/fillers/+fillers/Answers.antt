use Rattle.std.proofs.Common.{◌≡◌, true, ap, ◌∙◌, subst, map, arith}
use Rattle.vx_dtype.specs.Types.{struct_ty}
use Rattle.vx_dtype.specs.TypeRules.{depth_of, depth_below}
use Rattle.vx_dtype.specs.Values.{raw_struct}
use Rattle.vx_dtype.specs.Fits.{fits}
use Rattle.vx_dtype.specs.RawViews.{raw_view, raws_of}
use Rattle.vx_dtype.specs.TypeViews.{type_view}
use Rattle.vx_dtype.specs.declared.types.DType.{DType}
use Rattle.vx_dtype.specs.declared.values.ScalarValue.{ScalarValue}
use Rattle.vx_column.proofs.StructLemmas.{all_zip_more, if_ok_map}
use Rattle.vx_column.proofs.FillerLemmas.{deepest_of, depth_le-deepest, deepest_fields, struct_depth, struct_filled}
use Rattle.vx_column.proofs.fillers.+fillers.Goals as goal

pub filler_of-fillers_of-requires : goal.filler_of-fillers_of-requires
filler_of-fillers_of-requires t c =
    let shape : type_view c.args.dtype.now ≡ struct_ty c.in-Struct.fields c.in-Struct.field-1 = ap type_view c.in-Struct.is in
    let below : deepest_of (map type_view c.dtypes.result.now) ≡ depth_below c.in-Struct.fields = ap deepest_of c.dtypes.ensures ∙ deepest_fields c.in-Struct.fields in
    (omega (arith, below, struct_depth _ c.in-Struct.fields c.in-Struct.field-1 shape, c.decreases), tt)

pub filler_of-returns-in_ok-fillers_of-in-Struct : goal.filler_of-returns-in_ok-fillers_of-in-Struct
filler_of-returns-in_ok-fillers_of-in-Struct t c =
    let shape : type_view c.args.dtype.now ≡ struct_ty c.in-Struct.fields c.in-Struct.field-1 = ap type_view c.in-Struct.is in
    if_ok_map _ _ c.struct_of.result
    (λ (x : ScalarValue) (e : raw_view x ≡ raw_struct (raws_of (map raw_view c.in_ok-fillers_of-in-Struct.field-0.items))).
    struct_filled _ c.in-Struct.fields c.in-Struct.field-1 c.dtypes.result.now c.in_ok-fillers_of-in-Struct.field-0.items x shape c.dtypes.ensures c.in_ok-fillers_of-in-Struct.ensures e)
    c.struct_of.ensures

pub fillers_of-filler_of-requires : goal.fillers_of-filler_of-requires
fillers_of-filler_of-requires t c =
    let i = c.loop-dtype.dtype-index in
    let here = ap (λ d. depth_of (type_view d)) c.dtype-item.is in
    (omega (arith, depth_le-deepest c.args.dtypes.now i c.dtype-item.result c.loop-dtype-test.true, here, c.decreases), tt)

pub fillers_of-loop-dtype-preserved : goal.fillers_of-loop-dtype-preserved
fillers_of-loop-dtype-preserved t c =
    let fit : DType → ScalarValue → Type 0 = λ d x. fits (raw_view x) (type_view d) ≡ true in
    rw c.in_ok-push.ensures.items
    (all_zip_more fit c.args.dtypes.now c.loop-dtype.fillers.items c.loop-dtype.dtype-index c.dtype-item.result _ c.loop-dtype-test.true c.loop-dtype.invariant
    (subst (λ d. fit d c.in_ok-filler_of.field-0) c.dtype-item.is c.in_ok-filler_of.ensures))
