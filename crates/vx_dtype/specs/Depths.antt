-- For the checker: no public clause cites this.
-- A part of a type is less deep than the type: so recursions over types end.
use Rattle.std.specs.Prelude.{◌≡◌, ◌≤◌, List, [], ◌∷◌, length, map}
use Rattle.std.proofs.Common.{arith}
use denote.Param.Weighed.{most}
use Rattle.vx_dtype.specs.Types.{Bytes}
use Rattle.vx_dtype.specs.TypeRules.{depth_of, depth_below}
use Rattle.vx_dtype.specs.Zipped.{zipped}
use Rattle.vx_dtype.specs.TypeViews.{type_view}
use Rattle.vx_dtype.specs.declared.types.DType.{DType}
use Rattle.vx_dtype.specs.declared.types.DType.TheVariants.{Bool, Primitive, Utf8, List as ListOf, Struct}
use Rattle.vx_dtype.specs.declared.types.ElementType.TheDeep.{deep-DType}

-- no part of a type is as deep as the type
pub deep_le-depth_of : (d : DType) → deep-DType d ≤ depth_of (type_view d)
unfolding depth_of
deep_le-depth_of (Bool n) = omega arith
deep_le-depth_of (Primitive p n) = omega arith
deep_le-depth_of (Utf8 n) = omega arith
deep_le-depth_of (ListOf e n) = omega arith
deep_le-depth_of (Struct fs n) = omega arith

-- nor is a part of the types of fields as deep as the deepest of them
pub most_le-depth_below : (fs : List Bytes) (ds : List DType) → length fs ≡ length ds → most deep-DType ds ≤ depth_below (zipped fs (map type_view ds))
unfolding depth_of
most_le-depth_below [] [] e = omega arith
most_le-depth_below [] (d ∷ ds) e = absurd (omega (arith, e))
most_le-depth_below (f ∷ fs) [] e = omega arith
most_le-depth_below (f ∷ fs) (d ∷ ds) e = omega (arith, deep_le-depth_of d, most_le-depth_below fs ds (omega (arith, e)))
