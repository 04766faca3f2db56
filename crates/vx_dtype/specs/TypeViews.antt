-- How types are seen: each as its tree.
use Rattle.vx_dtype.specs.Types.{Ty, bool_ty, int_ty, text_ty, list_ty, struct_ty}
use Rattle.vx_dtype.specs.declared.types.DType.{DType}
use Rattle.vx_dtype.specs.declared.types.DType.TheVariants.{Bool, Primitive, Utf8, List, Struct}

-- the type that a value of the code stands for
abbrev pub type_view : DType → Ty
type_view (Bool n) = bool_ty n
type_view (Primitive p n) = int_ty p n
type_view (Utf8 n) = text_ty n
type_view (List e n) = list_ty e n
type_view (Struct fs n) = struct_ty fs n
