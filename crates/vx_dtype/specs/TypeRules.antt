-- The rules on types: nullability, equal types, plain types, fields, and names that stand once.
use Rattle.std.specs.Prelude.{ℕ, zero, suc, ◌+◌, max, Bool, true, false, ◌&&◌, not, List, [], ◌∷◌, Option, Some, None, cond}
use Rattle.std.specs.Str.{bytes_eq}
use Rattle.std.specs.List.{list_any}
use Rattle.vx_dtype.specs.Types.{Bytes, Ty, bool_ty, int_ty, text_ty, list_ty, struct_ty, Fields, no_fields, field}
use Rattle.vx_dtype.specs.Types.{PType, U8, U16, U32, U64, I8, I16, I32, I64, Nullability, NonNullable, Nullable}

-- whether null is a value of a type of this nullability
abbrev pub is_nullable : Nullability → Bool
is_nullable NonNullable = false
is_nullable Nullable = true

-- the number of a nullability
abbrev pub null_number : Nullability → ℕ
null_number NonNullable = 0
null_number Nullable = 1

-- the nullability of a number; from 2 on there is none
abbrev pub null_numbered : ℕ → Option Nullability
null_numbered zero = Some NonNullable
null_numbered (suc zero) = Some Nullable
null_numbered (suc (suc n)) = None

-- the number of an integer type: U8 is 0, and so on to I64, which is 7
abbrev pub ptype_number : PType → ℕ
ptype_number U8 = 0
ptype_number U16 = 1
ptype_number U32 = 2
ptype_number U64 = 3
ptype_number I8 = 4
ptype_number I16 = 5
ptype_number I32 = 6
ptype_number I64 = 7

-- the integer type of a number; from 8 on there is none
abbrev pub ptype_numbered : ℕ → Option PType
ptype_numbered zero = Some U8
ptype_numbered (suc zero) = Some U16
ptype_numbered (suc (suc zero)) = Some U32
ptype_numbered (suc (suc (suc zero))) = Some U64
ptype_numbered (suc (suc (suc (suc zero)))) = Some I8
ptype_numbered (suc (suc (suc (suc (suc zero))))) = Some I16
ptype_numbered (suc (suc (suc (suc (suc (suc zero)))))) = Some I32
ptype_numbered (suc (suc (suc (suc (suc (suc (suc zero))))))) = Some I64
ptype_numbered (suc (suc (suc (suc (suc (suc (suc (suc n)))))))) = None

-- nullable where one of the two is
abbrev pub union : Nullability → Nullability → Nullability
union NonNullable m = m
union Nullable m = Nullable

-- the nullability of a type at its first level
abbrev pub nullability_of : Ty → Nullability
nullability_of (bool_ty n) = n
nullability_of (int_ty p n) = n
nullability_of (text_ty n) = n
nullability_of (list_ty e n) = n
nullability_of (struct_ty fs n) = n

-- the type with this nullability at its first level
abbrev pub with_nullability : Ty → Nullability → Ty
with_nullability (bool_ty m) n = bool_ty n
with_nullability (int_ty p m) n = int_ty p n
with_nullability (text_ty m) n = text_ty n
with_nullability (list_ty e m) n = list_ty e n
with_nullability (struct_ty fs m) n = struct_ty fs n

-- the type, nullable also where the given nullability is
abbrev pub widened : Ty → Nullability → Ty
widened t n = with_nullability t (union (nullability_of t) n)

-- whether two integer types are the same
abbrev pub same_ptype : PType → PType → Bool
same_ptype U8 U8 = true
same_ptype U16 U16 = true
same_ptype U32 U32 = true
same_ptype U64 U64 = true
same_ptype I8 I8 = true
same_ptype I16 I16 = true
same_ptype I32 I32 = true
same_ptype I64 I64 = true
same_ptype _ _ = false

unfoldable mutual
  -- whether two types are equal but for nullability, at every depth
  pub alike : Ty → Ty → Bool
  alike (bool_ty n) (bool_ty m) = true
  alike (int_ty p n) (int_ty q m) = same_ptype p q
  alike (text_ty n) (text_ty m) = true
  alike (list_ty e n) (list_ty d m) = alike e d
  alike (struct_ty fs n) (struct_ty gs m) = alike_fields fs gs
  alike _ _ = false

  -- whether two lists of fields have the same names in order, at such types
  pub alike_fields : Fields → Fields → Bool
  alike_fields no_fields no_fields = true
  alike_fields (field f t fs) (field g u gs) = bytes_eq f g && (alike t u && alike_fields fs gs)
  alike_fields _ _ = false

-- booleans, integers and texts are plain
abbrev pub is_plain : Ty → Bool
is_plain (bool_ty n) = true
is_plain (int_ty p n) = true
is_plain (text_ty n) = true
is_plain (list_ty e n) = false
is_plain (struct_ty fs n) = false

-- of each kind of type, whether it is that kind
abbrev pub is_bool_ty : Ty → Bool
is_bool_ty (bool_ty n) = true
is_bool_ty _ = false

abbrev pub is_int_ty : Ty → Bool
is_int_ty (int_ty p n) = true
is_int_ty _ = false

abbrev pub is_text_ty : Ty → Bool
is_text_ty (text_ty n) = true
is_text_ty _ = false

-- the fields of a struct type, and none of another
abbrev pub fields_of : Ty → Fields
fields_of (struct_ty fs n) = fs
fields_of _ = no_fields

-- the names of the fields, in order
abbrev pub field_names : Fields → List Bytes
field_names no_fields = []
field_names (field f t fs) = f ∷ field_names fs

-- the type of the first field of this name
abbrev pub field_type : Bytes → Fields → Option Ty
field_type f no_fields = None
field_type f (field g t fs) = cond (bytes_eq f g) (Some t) (field_type f fs)

-- whether a list of names has this one, and whether it has none twice
abbrev pub has_name : Bytes → List Bytes → Bool
has_name f fs = list_any (bytes_eq f) fs

abbrev pub distinct_names : List Bytes → Bool
distinct_names [] = true
distinct_names (f ∷ fs) = not (has_name f fs) && distinct_names fs

unfoldable mutual
  -- whether no struct in the type, at any depth, has two fields of one name
  pub no_name_twice : Ty → Bool
  no_name_twice (list_ty e n) = no_name_twice e
  no_name_twice (struct_ty fs n) = distinct_names (field_names fs) && no_name_twice_below fs
  no_name_twice _ = true

  -- the same of the types of fields
  pub no_name_twice_below : Fields → Bool
  no_name_twice_below no_fields = true
  no_name_twice_below (field f t fs) = no_name_twice t && no_name_twice_below fs

unfoldable mutual
  -- how deep a type is: a plain type and a struct without fields have 1, a list or another struct one more than its deepest part
  pub depth_of : Ty → ℕ
  depth_of (list_ty e n) = depth_of e + 1
  depth_of (struct_ty fs n) = depth_below fs + 1
  depth_of _ = 1

  -- the depth of the deepest field, 0 where there is none
  pub depth_below : Fields → ℕ
  depth_below no_fields = 0
  depth_below (field f t fs) = max (depth_of t) (depth_below fs)

-- how deep a type may be that has a wire form, or is a column's
abbrev pub most_deep : ℕ
most_deep = 64
