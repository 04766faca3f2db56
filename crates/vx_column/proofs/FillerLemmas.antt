-- Values of the types of fields make a struct, and are of lesser types.
use Rattle.std.proofs.Common.{◌≡◌, refl, ap, ◌∙◌, sym, ℕ, zero, suc, ◌+◌, ◌<◌, ◌≤◌, max, true, List, [], ◌∷◌, map, length, get_or, arith}
use Rattle.std.specs.List.{AllZip}
use Rattle.vx_dtype.specs.Types.{Ty, struct_ty, Fields, no_fields, field}
use Rattle.vx_dtype.specs.declared.Nullability.{Nullability}
use Rattle.vx_dtype.specs.TypeRules.{depth_of, depth_below}
use Rattle.vx_dtype.specs.StructTypes.{field_types}
use Rattle.vx_dtype.specs.Values.{raw_struct}
use Rattle.vx_dtype.specs.Fits.{fits, fields_fit}
use Rattle.vx_dtype.specs.RawViews.{raw_view, raws_of}
use Rattle.vx_dtype.specs.TypeViews.{type_view}
use Rattle.vx_dtype.specs.declared.types.DType.{DType}
use Rattle.vx_dtype.specs.declared.values.ScalarValue.{ScalarValue}
use Rattle.vx_column.proofs.FitLemmas.{of_both}

-- the depth of the deepest of the types
abbrev pub deepest_of : List Ty → ℕ
deepest_of [] = 0
deepest_of (t ∷ ts) = max (depth_of t) (deepest_of ts)

pub depth_le-deepest : (ts : List DType) (i : ℕ) (d : DType) → i < length ts → depth_of (type_view (get_or ts i d)) ≤ deepest_of (map type_view ts)
depth_le-deepest [] i d h = absurd (omega arith)
depth_le-deepest (t ∷ ts) zero d h = omega arith
depth_le-deepest (t ∷ ts) (suc i) d h = omega (arith, depth_le-deepest ts i d (omega arith))

pub deepest_fields : (fs : Fields) → deepest_of (field_types fs) ≡ depth_below fs
unfolding depth_of
deepest_fields no_fields = refl
deepest_fields (field f t fs) = ap (max (depth_of t)) (deepest_fields fs)

-- one value of each field's type
pub fillers_fit : (fs : Fields) (ds : List DType) (xs : List ScalarValue) → map type_view ds ≡ field_types fs
    → AllZip (λ t x. fits (raw_view x) (type_view t) ≡ true) ds xs → fields_fit (raws_of (map raw_view xs)) fs ≡ true
unfolding fits
fillers_fit no_fields [] [] e h = refl
fillers_fit no_fields [] (x ∷ xs) e h = absurd h
fillers_fit no_fields (d ∷ ds) xs e h = absurd cc
fillers_fit (field f t fs) [] xs e h = absurd cc
fillers_fit (field f t fs) (d ∷ ds) [] e h = absurd h
fillers_fit (field f t fs) (d ∷ ds) (x ∷ xs) e h =
    let here : type_view d ≡ t = cc in
    let rest : map type_view ds ≡ field_types fs = cc in
    of_both _ _ (ap (fits (raw_view x)) (sym here) ∙ h.0) (fillers_fit fs ds xs rest h.1)

pub struct_filled : (t : Ty) (fs : Fields) (n : Nullability) (ds : List DType) (xs : List ScalarValue) (x : ScalarValue) → t ≡ struct_ty fs n → map type_view ds ≡ field_types fs
    → AllZip (λ d y. fits (raw_view y) (type_view d) ≡ true) ds xs → raw_view x ≡ raw_struct (raws_of (map raw_view xs)) → fits (raw_view x) t ≡ true
unfolding fits
struct_filled t fs n ds xs x s e h p = (λ j. fits (p j) (s j)) ∙ fillers_fit fs ds xs e h

-- a struct is deeper than its fields
pub struct_depth : (t : Ty) (fs : Fields) (n : Nullability) → t ≡ struct_ty fs n → depth_of t ≡ depth_below fs + 1
unfolding depth_of
struct_depth t fs n e = ap depth_of e
