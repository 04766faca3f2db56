-- Types as data: a tree of kinds, each with its nullability. A name or a text is the list of its bytes.
use Rattle.std.specs.Prelude.{ℕ, List}
pub use Rattle.vx_dtype.specs.declared.integers.PType.{PType}
pub use Rattle.vx_dtype.specs.declared.integers.PType.TheVariants.{U8, U16, U32, U64, I8, I16, I32, I64}
pub use Rattle.vx_dtype.specs.declared.nulls.Nullability.{Nullability}
pub use Rattle.vx_dtype.specs.declared.nulls.Nullability.TheVariants.{NonNullable, Nullable}

-- the bytes of a text or a name
abbrev pub Bytes : Type 0
Bytes = List ℕ

mutual
  -- a type: booleans, integers, texts, lists of one element type, structs of named fields
  pub data Ty : Type 0 where
    bool_ty : Nullability → Ty
    int_ty : PType → Nullability → Ty
    text_ty : Nullability → Ty
    list_ty : Ty → Nullability → Ty
    struct_ty : Fields → Nullability → Ty

  -- the fields of a struct type in order, each with its name and type
  pub data Fields : Type 0 where
    no_fields : Fields
    field : Bytes → Ty → Fields → Fields
