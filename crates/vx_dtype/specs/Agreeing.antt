-- For the checker: no public clause cites this.
-- Types compared by one walk, whether nullability counts or not: where it counts this is equality, where it doesn't the two are alike.
use Rattle.std.specs.Prelude.{Bool, true, false, ◌&&◌}
use Rattle.std.specs.Str.{bytes_eq}
use Rattle.vx_dtype.specs.declared.types.likeness.Nullabilities.{Nullabilities}
use Rattle.vx_dtype.specs.declared.types.likeness.Nullabilities.TheVariants.{Counted, Ignored}
use Rattle.vx_dtype.specs.Types.{Ty, bool_ty, int_ty, text_ty, list_ty, struct_ty, Fields, no_fields, field, Nullability}
use Rattle.vx_dtype.specs.TypeRules.{same_ptype}
use Rattle.vx_dtype.specs.Equal.{same_nullability}

-- whether two nullabilities are the same, where they count
abbrev pub nulls_agree : Nullabilities → Nullability → Nullability → Bool
nulls_agree Counted n m = same_nullability n m
nulls_agree Ignored n m = true

unfoldable mutual
  -- whether two types have the same kinds, integer types and names, and nullabilities that agree
  pub types_agree : Nullabilities → Ty → Ty → Bool
  types_agree by (bool_ty n) (bool_ty m) = nulls_agree by n m
  types_agree by (int_ty p n) (int_ty q m) = same_ptype p q && nulls_agree by n m
  types_agree by (text_ty n) (text_ty m) = nulls_agree by n m
  types_agree by (list_ty e n) (list_ty d m) = types_agree by e d && nulls_agree by n m
  types_agree by (struct_ty fs n) (struct_ty gs m) = fields_agree by fs gs && nulls_agree by n m
  types_agree by _ _ = false

  -- whether two lists of fields have the same names in order, at types that agree
  pub fields_agree : Nullabilities → Fields → Fields → Bool
  fields_agree by no_fields no_fields = true
  fields_agree by (field f t fs) (field g u gs) = bytes_eq f g && (types_agree by t u && fields_agree by fs gs)
  fields_agree by _ _ = false
