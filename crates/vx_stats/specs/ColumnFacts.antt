-- For the checker: no public clause cites this.
-- Columns of the blocks of a field: of its type but perhaps for nulls, and their values; the bounds of one.
use Rattle.std.specs.Prelude.{◌≡◌, ℕ, true, List, [], map, get_or, unwrap_or, is_some}
use Rattle.std.specs.List.{AllByRecursion}
use Rattle.vx_dtype.specs.declared.Nullability.TheVariants.{NonNullable, Nullable}
use Rattle.vx_dtype.specs.declared.values.ScalarValue.{ScalarValue}
use Rattle.vx_dtype.specs.Types.{Bytes, Ty, bool_ty, Fields}
use Rattle.vx_dtype.specs.TypeRules.{with_nullability, nullability_of, widened, fields_of, field_type}
use Rattle.vx_dtype.specs.StructTypes.{is_struct_ty}
use Rattle.vx_dtype.specs.Structs.{field_of}
use Rattle.vx_dtype.specs.Values.{Val}
use Rattle.vx_dtype.specs.Fits.{fits}
use Rattle.vx_dtype.specs.RawViews.{raw_view}
use Rattle.vx_column.specs.Columns.{Column, column}
use Rattle.vx_laws_stats.specs.BuiltStatistics.{least_of, greatest_of, raw_of}

-- the values of columns
abbrev pub column_rows : List Column → List (List Val)
column_rows cs = map (λ c. c.rows) cs

-- the column at a place of a block, which has one there
abbrev pub no_column : Column
no_column = column (bool_ty NonNullable) []

abbrev pub column_at : ℕ → List Column → Column
column_at place cs = get_or cs place no_column

-- each column is of this type, but perhaps for whether it is nullable
abbrev pub AreOf : Ty → List Column → Type 0
AreOf t cs = AllByRecursion (λ c. with_nullability c.ty Nullable ≡ with_nullability t Nullable) cs

-- each column is one of structs with these fields
abbrev pub AreStructs : Fields → List Column → Type 0
AreStructs fs cs = AllByRecursion (λ c. (is_struct_ty c.ty ≡ true) × (fields_of c.ty ≡ fs)) cs

-- the column of a field, where there is such a field
abbrev pub field_column_of : Bytes → Column → Column
field_column_of f c = column (widened (unwrap_or (field_type f (fields_of c.ty)) c.ty) (nullability_of c.ty)) (map (field_of f) c.rows)

-- each column is one of structs that have such a field
abbrev pub HaveField : Bytes → List Column → Type 0
HaveField f cs = AllByRecursion (λ c. (is_struct_ty c.ty ≡ true) × (is_some (field_type f (fields_of c.ty)) ≡ true)) cs

-- the values are the least and the greatest of a column, and of its type made nullable
pub record AreBounds (c : Column) (bounds : ScalarValue × ScalarValue) : Type 0 where
  pub least : raw_view bounds.0 ≡ raw_of (least_of c.rows)
  pub greatest : raw_view bounds.1 ≡ raw_of (greatest_of c.rows)
  pub least_fits : fits (raw_view bounds.0) (with_nullability c.ty Nullable) ≡ true
  pub greatest_fits : fits (raw_view bounds.1) (with_nullability c.ty Nullable) ≡ true
