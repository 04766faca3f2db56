-- The wire form of types.
use Rattle.std.specs.Prelude.{ℕ, ◌+◌, ◌≤◌, [], ◌∷◌, ◌++◌}
use Rattle.vx_dtype.specs.Types.{Bytes, Ty, bool_ty, int_ty, text_ty, list_ty, struct_ty, Fields, no_fields, field}
use Rattle.vx_dtype.specs.TypeRules.{depth_of, most_deep, null_number, ptype_number}
use Rattle.vx_wire_bytes.specs.Numbers.{number_bytes, piece_bytes}
use Rattle.vx_wire_bytes.specs.Fields.{IsNumber, IsText}

-- how many fields there are
abbrev pub fields_number : Fields → ℕ
fields_number no_fields = 0
fields_number (field f t fs) = 1 + fields_number fs

abbrev mutual
  -- the bytes of a type: its tag, the number of its nullability, and what its kind has
  pub type_bytes : Ty → Bytes
  type_bytes (bool_ty n) = 0 ∷ null_number n ∷ []
  type_bytes (int_ty p n) = 1 ∷ null_number n ∷ ptype_number p ∷ []
  type_bytes (text_ty n) = 2 ∷ null_number n ∷ []
  type_bytes (list_ty e n) = 3 ∷ null_number n ∷ type_bytes e
  type_bytes (struct_ty fs n) = 4 ∷ null_number n ∷ (number_bytes (fields_number fs) ++ fields_bytes fs)

  -- each field's name and type
  pub fields_bytes : Fields → Bytes
  fields_bytes no_fields = []
  fields_bytes (field f t fs) = piece_bytes f ++ (type_bytes t ++ fields_bytes fs)

abbrev mutual
  -- each name in a type is as given, and each number of fields has a spelling
  pub NamesAre : (Bytes → Type 0) → Ty → Type 0
  NamesAre Given (bool_ty n) = Unit {0}
  NamesAre Given (int_ty p n) = Unit {0}
  NamesAre Given (text_ty n) = Unit {0}
  NamesAre Given (list_ty e n) = NamesAre Given e
  NamesAre Given (struct_ty fs n) = IsNumber (fields_number fs) × FieldNamesAre Given fs

  pub FieldNamesAre : (Bytes → Type 0) → Fields → Type 0
  FieldNamesAre Given no_fields = Unit {0}
  FieldNamesAre Given (field f t fs) = Given f × NamesAre Given t × FieldNamesAre Given fs

-- each name in a type has a spelling, and each number of fields
abbrev pub HasNames : Ty → Type 0
HasNames t = NamesAre IsText t

abbrev pub HaveNames : Fields → Type 0
HaveNames fs = FieldNamesAre IsText fs

-- a type that has a spelling
pub record IsType (t : Ty) : Type 0 where
  pub names : HasNames t
  pub depth : depth_of t ≤ most_deep
