-- Tables and values for the examples of built statistics.
use Rattle.std.specs.Prelude.{pos, [], ◌∷◌, codes}
use Rattle.vx_dtype.specs.declared.PType.TheVariants.{I32}
use Rattle.vx_dtype.specs.declared.Nullability.TheVariants.{NonNullable, Nullable}
use Rattle.vx_dtype.specs.Types.{int_ty, struct_ty, field}
use Rattle.vx_dtype.specs.Values.{raw_null, int_val, struct_val, no_members, member, Typed}
use Rattle.vx_semantics.specs.Tables.{Table}
use Rattle.vx_worked_examples.specs.Samples.{alone, only}

-- a bound that isn't known
abbrev pub unknown : Typed
unknown = record { ty = int_ty I32 Nullable; value = raw_null }

-- a table of the column `a_b` and of a column `a` with the field `b`, of one row
abbrev pub one_name : Table
one_name =
    record {
      columns = field (codes "a_b") (int_ty I32 NonNullable) (only "a" (struct_ty (only "b" (int_ty I32 NonNullable)) NonNullable));
      blocks =
          (struct_val (member (codes "a_b") (int_val I32 (pos 1)) (member (codes "a") (alone "b" (int_val I32 (pos 2))) no_members)) ∷ []) ∷ [];
    }
