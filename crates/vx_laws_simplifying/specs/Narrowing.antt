-- Types that differ in nullability alone.
use Rattle.std.specs.Prelude.{Bool, true, false, ◌&&◌}
use Rattle.std.specs.Str.{bytes_eq}
use Rattle.vx_dtype.specs.Types.{Ty, bool_ty, int_ty, text_ty, list_ty, struct_ty, Fields, no_fields, field}
use Rattle.vx_dtype.specs.declared.Nullability.{Nullability}
use Rattle.vx_dtype.specs.declared.Nullability.TheVariants.{NonNullable, Nullable}
use Rattle.vx_dtype.specs.TypeRules.{is_nullable, same_ptype}

-- whether a nullability is no more nullable than another
abbrev pub no_more_nullable : Nullability → Nullability → Bool
no_more_nullable NonNullable m = true
no_more_nullable Nullable m = is_nullable m

unfoldable mutual
  -- whether a type is another but perhaps less nullable, at any depth
  pub narrows : Ty → Ty → Bool
  narrows (bool_ty n) (bool_ty m) = no_more_nullable n m
  narrows (int_ty p n) (int_ty q m) = same_ptype p q && no_more_nullable n m
  narrows (text_ty n) (text_ty m) = no_more_nullable n m
  narrows (list_ty e n) (list_ty d m) = narrows e d && no_more_nullable n m
  narrows (struct_ty fs n) (struct_ty gs m) = narrow_fields fs gs && no_more_nullable n m
  narrows _ _ = false

  -- the same of fields with the same names in order
  pub narrow_fields : Fields → Fields → Bool
  narrow_fields no_fields no_fields = true
  narrow_fields (field f t fs) (field g u gs) = bytes_eq f g && (narrows t u && narrow_fields fs gs)
  narrow_fields _ _ = false
