-- Printed texts, as their bytes: nullability, comparisons, types, quoted texts and lists of names.
use lib.Chars.{codes}
use Rattle.std.specs.Prelude.{ℕ, ◌+◌, ◌-◌, ◌/◌, ◌%◌, List, [], ◌∷◌, ◌++◌, ◌==◌, cond, nat_lt, if◌then◌else◌, Option, Some, None}
use Rattle.std.specs.List.{flat_map}
use Rattle.std.specs.Str.{bytes_eq}
use Rattle.vx_dtype.specs.Types.{Bytes, Ty, bool_ty, int_ty, text_ty, list_ty, struct_ty, Fields, no_fields, field, PType, U8, U16, U32, U64, I8, I16}
use Rattle.vx_dtype.specs.Types.{I32, I64, Nullability, NonNullable, Nullable}
use Rattle.vx_dtype.specs.Order.{CompareOperator, Eq, NotEq, Gt, Gte, Lt, Lte}

-- nothing, or `?` where null is a value
abbrev pub nullability_text : Nullability → Bytes
nullability_text NonNullable = []
nullability_text Nullable = codes "?"

-- the sign of a comparison
abbrev pub operator_text : CompareOperator → Bytes
operator_text Eq = codes "="
operator_text NotEq = codes "!="
operator_text Gt = codes ">"
operator_text Gte = codes ">="
operator_text Lt = codes "<"
operator_text Lte = codes "<="

-- the name of an integer type
abbrev pub ptype_text : PType → Bytes
ptype_text U8 = codes "u8"
ptype_text U16 = codes "u16"
ptype_text U32 = codes "u32"
ptype_text U64 = codes "u64"
ptype_text I8 = codes "i8"
ptype_text I16 = codes "i16"
ptype_text I32 = codes "i32"
ptype_text I64 = codes "i64"

-- the integer type of this name
unfoldable pub integer_named : Bytes → Option PType
integer_named s =
    if bytes_eq s (codes "u8") then Some U8 else
    (if bytes_eq s (codes "u16") then Some U16 else
    (if bytes_eq s (codes "u32") then Some U32 else
    (if bytes_eq s (codes "u64") then Some U64 else
    (if bytes_eq s (codes "i8") then Some I8 else
    (if bytes_eq s (codes "i16") then Some I16 else
    (if bytes_eq s (codes "i32") then Some I32 else
    (if bytes_eq s (codes "i64") then Some I64 else None)))))))

-- what stands before the part at this place: nothing before the first, `, ` before the others
abbrev pub separator_at : ℕ → Bytes
separator_at i = cond (i == 0) [] (codes ", ")

unfoldable mutual
  -- a type: its name, or its parts within `list(..)` or `{..}`, and `?` where it is nullable
  pub ty_text : Ty → Bytes
  ty_text (bool_ty n) = codes "bool" ++ nullability_text n
  ty_text (int_ty p n) = ptype_text p ++ nullability_text n
  ty_text (text_ty n) = codes "utf8" ++ nullability_text n
  ty_text (list_ty e n) = codes "list(" ++ ty_text e ++ codes ")" ++ nullability_text n
  ty_text (struct_ty fs n) = codes "{" ++ fields_text [] fs ++ codes "}" ++ nullability_text n

  -- each field as `name=type`, with this separator before the first and `, ` before the others
  pub fields_text : Bytes → Fields → Bytes
  fields_text separator no_fields = []
  fields_text separator (field f t fs) = separator ++ f ++ codes "=" ++ ty_text t ++ fields_text (codes ", ") fs

-- a separator, and a field as `name=type`
abbrev pub field_text : Bytes → Bytes → Ty → Bytes
field_text separator f t = separator ++ f ++ codes "=" ++ ty_text t

-- a hexadecimal digit, in lower case
abbrev pub hex_digit : ℕ → ℕ
hex_digit n = cond (nat_lt n 10) (48 + n) (97 + (n - 10))

-- a control character within quotes, by its number
abbrev pub control_text : ℕ → Bytes
control_text b = codes "\\u00" ++ hex_digit (b / 16) ∷ hex_digit (b % 16) ∷ []

-- a byte within quotes: quotes, backslashes and control characters are escaped
abbrev pub escaped_byte : ℕ → Bytes
escaped_byte b =
    cond (b == 34) (codes "\\\"")
    (cond (b == 92) (codes "\\\\")
    (cond (b == 8) (codes "\\b")
    (cond (b == 9) (codes "\\t")
    (cond (b == 10) (codes "\\n")
    (cond (b == 12) (codes "\\f")
    (cond (b == 13) (codes "\\r")
    (cond (nat_lt b 32) (control_text b) (b ∷ []))))))))

-- a text within quotes, with its escapes
abbrev pub quoted_text : Bytes → Bytes
quoted_text s = codes "\"" ++ flat_map escaped_byte s ++ codes "\""

-- quoted names, with this separator before the first and `, ` before the others
abbrev pub quoted_names : Bytes → List Bytes → Bytes
quoted_names separator [] = []
quoted_names separator (f ∷ fs) = separator ++ quoted_text f ++ quoted_names (codes ", ") fs

-- a list of names: quoted, within brackets
abbrev pub names_text : List Bytes → Bytes
names_text fs = codes "[" ++ quoted_names [] fs ++ codes "]"
