-- Types as a request writes them: a plain type by its name, lists and structs as objects.
use Rattle.std.specs.Prelude.{ℕ, zero, suc, ◌-◌, Bool, cond, List, [], ◌∷◌, length, take, map, codes, Option, Some, None}
use Rattle.std.specs.Option.{option_or}
use Rattle.std.specs.Str.{bytes_eq}
use Rattle.std.specs.Io.BufRead.{ends_with_byte}
use Rattle.serde_json.specs.Data.{Data}
use Rattle.serde_json.specs.Find.{as_str, as_bool}
use Rattle.vx_dtype.specs.declared.nulls.Nullability.{Nullability}
use Rattle.vx_dtype.specs.declared.nulls.Nullability.TheVariants.{NonNullable, Nullable}
use Rattle.vx_dtype.specs.declared.integers.PType.TheVariants.{U8, U16, U32, U64, I8, I16, I32, I64}
use Rattle.vx_dtype.specs.Types.{Bytes, Ty, bool_ty, int_ty, text_ty, list_ty, struct_ty, Fields}
use Rattle.vx_dtype.specs.Zipped.{zipped}
use Rattle.vx_request.specs.Objects.{◌>>=◌, object_of, list_read}

-- the plain type of a name
abbrev pub plain_named : Nullability → Bytes → Option Ty
plain_named n s =
    cond (bytes_eq s (codes "bool")) (Some (bool_ty n))
    (cond (bytes_eq s (codes "u8")) (Some (int_ty U8 n))
    (cond (bytes_eq s (codes "u16")) (Some (int_ty U16 n))
    (cond (bytes_eq s (codes "u32")) (Some (int_ty U32 n))
    (cond (bytes_eq s (codes "u64")) (Some (int_ty U64 n))
    (cond (bytes_eq s (codes "i8")) (Some (int_ty I8 n))
    (cond (bytes_eq s (codes "i16")) (Some (int_ty I16 n))
    (cond (bytes_eq s (codes "i32")) (Some (int_ty I32 n))
    (cond (bytes_eq s (codes "i64")) (Some (int_ty I64 n))
    (cond (bytes_eq s (codes "utf8")) (Some (text_ty n)) None)))))))))

-- the plain type of a text: a name, nullable with `?` behind it
abbrev pub type_named : Bytes → Option Ty
type_named s = cond (ends_with_byte 63 s) (plain_named Nullable (take (length s - 1) s)) (plain_named NonNullable s)

-- nullable where this is true
abbrev pub nullability_where : Bool → Nullability
nullability_where b = cond b Nullable NonNullable

-- a list's type: an object of its elements' type and whether it is nullable
abbrev pub list_type_of : (Data → Option Ty) → List Data → Option Ty
list_type_of read (element ∷ nullable ∷ []) = read element >>= λ t. as_bool nullable >>= λ b. Some (list_ty t (nullability_where b))
list_type_of read _ = None

abbrev pub list_type_in : (Data → Option Ty) → Data → Option Ty
list_type_in read d = object_of (codes "list" ∷ codes "nullable" ∷ []) d >>= list_type_of read

-- a name beside a type: an object of the two
abbrev pub named_type_of : (Data → Option Ty) → List Data → Option (Bytes × Ty)
named_type_of read (name ∷ type ∷ []) = as_str name >>= λ f. read type >>= λ t. Some (f, t)
named_type_of read _ = None

abbrev pub named_type_in : (Data → Option Ty) → Data → Option (Bytes × Ty)
named_type_in read d = object_of (codes "name" ∷ codes "type" ∷ []) d >>= named_type_of read

-- the fields of names beside types
abbrev pub named_fields : List (Bytes × Ty) → Fields
named_fields fs = zipped (map (λ f. f.0) fs) (map (λ f. f.1) fs)

-- a struct's type: an object of the list of its fields and whether it is nullable
abbrev pub struct_type_of : (Data → Option Ty) → List Data → Option Ty
struct_type_of read (fields ∷ nullable ∷ []) =
    list_read (named_type_in read) fields >>= λ fs. as_bool nullable >>= λ b. Some (struct_ty (named_fields fs) (nullability_where b))
struct_type_of read _ = None

abbrev pub struct_type_in : (Data → Option Ty) → Data → Option Ty
struct_type_in read d = object_of (codes "struct" ∷ codes "nullable" ∷ []) d >>= struct_type_of read

-- a plain type: the text of its name
abbrev pub plain_type_in : Data → Option Ty
plain_type_in d = as_str d >>= type_named

-- a type with so many levels of lists and structs at most
unfoldable pub type_within : ℕ → Data → Option Ty
type_within zero d = plain_type_in d
type_within (suc levels) d =
    option_or (plain_type_in d) (option_or (list_type_in (type_within levels) d) (struct_type_in (type_within levels) d))

-- the levels that a type can have in a text of JSON, which nests no deeper
abbrev pub most_levels : ℕ
most_levels = 127

-- a type
abbrev pub type_in : Data → Option Ty
type_in d = type_within most_levels d
