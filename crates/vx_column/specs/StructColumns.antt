-- Columns of structs: those made of columns of their fields, and those of some of a column's fields.
use Rattle.std.specs.Prelude.{◌≡◌, ℕ, ◌==◌, slice_index_or, Bool, true, ◌&&◌, cond, List, [], ◌∷◌, map, length, Option, Some, None, Result, Ok, Err}
use Rattle.std.specs.List.{range_with_len, position}
use Rattle.std.specs.Str.{bytes_eq}
use Rattle.vx_dtype.specs.Types.{Bytes, Ty, struct_ty, Fields}
use Rattle.vx_dtype.specs.Zipped.{zipped}
use Rattle.vx_dtype.specs.declared.Nullability.{Nullability}
use Rattle.vx_dtype.specs.declared.Nullability.TheVariants.{NonNullable, Nullable}
use Rattle.vx_dtype.specs.declared.memory.FieldsError.{FieldsError}
use Rattle.vx_dtype.specs.declared.memory.FieldsError.TheVariants.{NoMemory as NoMemoryForFields, UnknownField as NoSuchField}
use Rattle.vx_dtype.specs.TypeRules.{field_names, distinct_names, fields_of, nullability_of}
use Rattle.vx_dtype.specs.StructTypes.{projected}
use Rattle.vx_dtype.specs.Structs.{selected}
use Rattle.vx_dtype.specs.Values.{Val, null_val, struct_val, Members, no_members, member}
use Rattle.vx_dtype.specs.Fits.{fits}
use Rattle.vx_dtype.specs.RawViews.{raw_view}
use Rattle.vx_dtype.specs.declared.values.ScalarValue.{ScalarValue}
use Rattle.vx_column.specs.declared.errors.ColumnError.{ColumnError}
use Rattle.vx_column.specs.declared.errors.ColumnError.TheVariants.{NoMemory, WrongLength, DuplicateField, UnknownField}
use Rattle.vx_column.specs.Columns.{Column, column, row_at, seen}
use Rattle.vx_column.specs.Answers.{unless}

-- the types of columns, in order
abbrev pub column_types : List Column → List Ty
column_types cs = map (λ c. c.ty) cs

-- whether each column has this many rows
abbrev pub all_have_rows : ℕ → List Column → Bool
all_have_rows n [] = true
all_have_rows n (c ∷ cs) = (length c.rows == n) && all_have_rows n cs

-- whether there are this many truths, where there are any
abbrev pub truths_number : ℕ → Option (List Bool) → Bool
truths_number n None = true
truths_number n (Some bs) = length bs == n

-- whether there are as many columns as names, and the columns and the truths have this many rows
abbrev pub lengths_agree : List Bytes → List Column → ℕ → Option (List Bool) → Bool
lengths_agree fs cs n valid = (length fs == length cs) && (all_have_rows n cs && truths_number n valid)

-- nullable where truths say which rows are valid
abbrev pub nullability_by : Option (List Bool) → Nullability
nullability_by None = NonNullable
nullability_by (Some bs) = Nullable

-- whether a row is valid: each is where no truths say so
abbrev pub is_valid_row : Option (List Bool) → ℕ → Bool
is_valid_row None i = true
is_valid_row (Some bs) i = slice_index_or bs i true

-- the names, each beside its column's value at a row
abbrev pub row_members : List Bytes → List Column → ℕ → Members
row_members [] cs i = no_members
row_members (f ∷ fs) [] i = no_members
row_members (f ∷ fs) (c ∷ cs) i = member f (row_at c i) (row_members fs cs i)

-- the struct of the columns' values at a row, null where the row isn't valid
abbrev pub struct_row : List Bytes → List Column → Option (List Bool) → ℕ → Val
struct_row fs cs valid i = cond (is_valid_row valid i) (struct_val (row_members fs cs i)) null_val

-- the type of the structs of these names and columns
abbrev pub struct_type : List Bytes → List Column → Option (List Bool) → Ty
struct_type fs cs valid = struct_ty (zipped fs (column_types cs)) (nullability_by valid)

-- the column of the structs at each of this many rows
abbrev pub made_struct : List Bytes → List Column → ℕ → Option (List Bool) → Column
made_struct fs cs n valid = column (struct_type fs cs valid) (map (struct_row fs cs valid) (range_with_len 0 n))

-- the column of structs: WrongLength where lengths don't agree, else DuplicateField where a name stands twice
abbrev pub struct_column : List Bytes → List Column → ℕ → Option (List Bool) → Result Column ColumnError
struct_column fs cs n valid = unless (lengths_agree fs cs n valid) WrongLength (unless (distinct_names fs) DuplicateField (Ok (made_struct fs cs n valid)))

-- the column of structs of these fields alone; UnknownField where there are no such fields, else DuplicateField where a name is asked twice
abbrev pub found_fields : List Bytes → Column → Option Fields → Result Column ColumnError
found_fields fs c None = Err UnknownField
found_fields fs c (Some gs) = unless (distinct_names fs) DuplicateField (Ok (column (struct_ty gs (nullability_of c.ty)) (map (selected fs) c.rows)))

-- the column of the fields with these names, null where the struct is
abbrev pub projected_column : List Bytes → Column → Result Column ColumnError
projected_column fs c = found_fields fs c (projected fs (fields_of c.ty))

-- the refusal that a refusal of fields is
abbrev pub fields_refusal : FieldsError → ColumnError
fields_refusal NoMemoryForFields = NoMemory
fields_refusal NoSuchField = UnknownField

-- a value of a column's type that stands for what the column has at a row
abbrev pub StandsAt : ℕ → Column → ScalarValue → Type 0
StandsAt i c x = (fits (raw_view x) c.ty ≡ true) × (seen c.ty x ≡ row_at c i)

-- the first place of a name among those of fields
abbrev pub place_of : Fields → Bytes → Option ℕ
place_of gs f = position (bytes_eq f) (field_names gs)

-- the value is the one at a place
abbrev pub IsAtPlace : List ScalarValue → ℕ → ScalarValue → Type 0
IsAtPlace xs p x = (d : ScalarValue) → raw_view x ≡ raw_view (slice_index_or xs p d)
