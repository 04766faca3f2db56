-- The one walk over two types is equality where nullability counts, and likeness where it doesn't.
use Rattle.std.proofs.Common.{◌≡◌, Bool, true, false, ◌&&◌, refl, ◌∙◌, ap, sym, subst, Decides}
use Rattle.std.specs.Str.{bytes_eq}
use Rattle.vx_dtype.specs.declared.types.likeness.Nullabilities.TheVariants.{Counted, Ignored}
use Rattle.vx_dtype.specs.Types.{Ty, bool_ty, int_ty, text_ty, list_ty, struct_ty, Fields, no_fields, field}
use Rattle.vx_dtype.specs.TypeRules.{same_ptype, alike, alike_fields}
use Rattle.vx_dtype.specs.Equal.{same_nullability, ty_eq, fields_eq}
use Rattle.vx_dtype.specs.EqualLaws.{ty_decides, fields_decides}
use Rattle.vx_dtype.specs.Agreeing.{types_agree, fields_agree}

and_true : (b : Bool) → (b && true) ≡ b
and_true false = refl
and_true true = refl

mutual
  unfolding ty_eq types_agree

  pub counted_types : (s t : Ty) → types_agree Counted s t ≡ ty_eq s t
  counted_types (bool_ty n) (bool_ty m) = refl
  counted_types (int_ty p n) (int_ty q m) = refl
  counted_types (text_ty n) (text_ty m) = refl
  counted_types (list_ty e n) (list_ty d m) = ap (λ b. b && same_nullability n m) (counted_types e d)
  counted_types (struct_ty fs n) (struct_ty gs m) = ap (λ b. b && same_nullability n m) (counted_fields fs gs)
  counted_types _ _ = refl

  pub counted_fields : (fs gs : Fields) → fields_agree Counted fs gs ≡ fields_eq fs gs
  counted_fields no_fields no_fields = refl
  counted_fields (field f t fs) (field g u gs) = λ i. bytes_eq f g && (counted_types t u i && counted_fields fs gs i)
  counted_fields _ _ = refl

mutual
  unfolding alike types_agree

  pub ignored_types : (s t : Ty) → types_agree Ignored s t ≡ alike s t
  ignored_types (bool_ty n) (bool_ty m) = refl
  ignored_types (int_ty p n) (int_ty q m) = and_true (same_ptype p q)
  ignored_types (text_ty n) (text_ty m) = refl
  ignored_types (list_ty e n) (list_ty d m) = and_true (types_agree Ignored e d) ∙ ignored_types e d
  ignored_types (struct_ty fs n) (struct_ty gs m) = and_true (fields_agree Ignored fs gs) ∙ ignored_fields fs gs
  ignored_types _ _ = refl

  pub ignored_fields : (fs gs : Fields) → fields_agree Ignored fs gs ≡ alike_fields fs gs
  ignored_fields no_fields no_fields = refl
  ignored_fields (field f t fs) (field g u gs) = λ i. bytes_eq f g && (ignored_types t u i && ignored_fields fs gs i)
  ignored_fields _ _ = refl

-- where nullability counts the walk decides whether the two are one
pub counted_types_decides : (s t : Ty) → Decides (types_agree Counted s t) (s ≡ t)
counted_types_decides s t = subst (λ b. Decides b (s ≡ t)) (sym (counted_types s t)) (ty_decides s t)

pub counted_fields_decides : (fs gs : Fields) → Decides (fields_agree Counted fs gs) (fs ≡ gs)
counted_fields_decides fs gs = subst (λ b. Decides b (fs ≡ gs)) (sym (counted_fields fs gs)) (fields_decides fs gs)
