-- A struct type for examples and tests.
use Rattle.std.specs.Prelude.{codes}
use Rattle.vx_dtype.specs.declared.PType.TheVariants.{I32, U16}
use Rattle.vx_dtype.specs.declared.Nullability.TheVariants.{NonNullable, Nullable}
use Rattle.vx_dtype.specs.Types.{Ty, bool_ty, int_ty, struct_ty, Fields, no_fields, field}

-- a number, two numbers that may be null, and two truth values
abbrev pub sample_fields : Fields
sample_fields =
    field (codes "a") (int_ty I32 NonNullable)
    (field (codes "col1") (int_ty U16 Nullable)
    (field (codes "col2") (int_ty U16 Nullable)
    (field (codes "bool1") (bool_ty NonNullable)
    (field (codes "bool2") (bool_ty NonNullable) no_fields))))

-- a struct of these
abbrev pub sample_struct : Ty
sample_struct = struct_ty sample_fields NonNullable
