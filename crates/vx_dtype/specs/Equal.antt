-- When types and values are equal: tests by their structure.
use Rattle.std.specs.Prelude.{Bool, true, false, ◌&&◌, List}
use Rattle.std.specs.Ordering.{int_eq}
use Rattle.std.specs.Str.{bytes_eq}
use Rattle.std.specs.Cmp.Lexicographic.{pointwise}
use Rattle.vx_dtype.specs.Types.{Bytes, Ty, bool_ty, int_ty, text_ty, list_ty, struct_ty, Fields, no_fields, field, Nullability, NonNullable, Nullable}
use Rattle.vx_dtype.specs.TypeRules.{same_ptype}
use Rattle.vx_dtype.specs.Values.{Raw, raw_null, raw_bool, raw_int, raw_text, raw_list, raw_struct, Raws, no_raws, raw, Typed}

-- whether two lists of names have the same names in the same places
abbrev pub names_eq : List Bytes → List Bytes → Bool
names_eq = pointwise bytes_eq

-- whether two nullabilities are the same
abbrev pub same_nullability : Nullability → Nullability → Bool
same_nullability NonNullable NonNullable = true
same_nullability Nullable Nullable = true
same_nullability _ _ = false

-- whether two truth values are the same
abbrev pub same_bool : Bool → Bool → Bool
same_bool true true = true
same_bool false false = true
same_bool _ _ = false

unfoldable mutual
  -- whether two types are the same, nullability included
  pub ty_eq : Ty → Ty → Bool
  ty_eq (bool_ty n) (bool_ty m) = same_nullability n m
  ty_eq (int_ty p n) (int_ty q m) = same_ptype p q && same_nullability n m
  ty_eq (text_ty n) (text_ty m) = same_nullability n m
  ty_eq (list_ty e n) (list_ty d m) = ty_eq e d && same_nullability n m
  ty_eq (struct_ty fs n) (struct_ty gs m) = fields_eq fs gs && same_nullability n m
  ty_eq _ _ = false

  -- whether two lists of fields have the same names and types in the same places
  pub fields_eq : Fields → Fields → Bool
  fields_eq no_fields no_fields = true
  fields_eq (field f t fs) (field g u gs) = bytes_eq f g && (ty_eq t u && fields_eq fs gs)
  fields_eq _ _ = false

unfoldable mutual
  -- whether two raw values are the same
  pub raw_eq : Raw → Raw → Bool
  raw_eq raw_null raw_null = true
  raw_eq (raw_bool b) (raw_bool c) = same_bool b c
  raw_eq (raw_int i) (raw_int j) = int_eq i j
  raw_eq (raw_text s) (raw_text t) = bytes_eq s t
  raw_eq (raw_list xs) (raw_list ys) = raws_eq xs ys
  raw_eq (raw_struct xs) (raw_struct ys) = raws_eq xs ys
  raw_eq _ _ = false

  -- whether two lists of raw values are the same
  pub raws_eq : Raws → Raws → Bool
  raws_eq no_raws no_raws = true
  raws_eq (raw x xs) (raw y ys) = raw_eq x y && raws_eq xs ys
  raws_eq _ _ = false

-- whether two scalars have the same type and the same value
abbrev pub typed_eq : Typed → Typed → Bool
typed_eq a b = ty_eq a.ty b.ty && raw_eq a.value b.value
