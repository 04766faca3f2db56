-- For the checker: no public clause cites this. What the parts of a column hold.
use Rattle.std.specs.Prelude.{◌≡◌, ℕ, slice_index_or, Bool, true, false, not, ◌&&◌, List, [], ◌∷◌, ◌++◌, map, length, Option, None}
use Rattle.std.specs.Hash as fed
use Rattle.std.specs.Hash.{HashWrites}
use Rattle.std.specs.List.{range_with_len}
use Rattle.std.proofs.Math.ListN.{replicate}
use Rattle.vx_dtype.specs.Types.{Bytes, Ty, struct_ty}
use Rattle.vx_dtype.specs.declared.Nullability.TheVariants.{NonNullable, Nullable}
use Rattle.vx_dtype.specs.TypeRules.{field_names, fields_of, is_bool_ty, is_int_ty, is_nullable, nullability_of, with_nullability}
use Rattle.vx_dtype.specs.StructTypes.{field_types}
use Rattle.vx_dtype.specs.Values.{Val}
use Rattle.vx_dtype.specs.Fits.{fits}
use Rattle.vx_dtype.specs.RawViews.{raw_view}
use Rattle.vx_dtype.specs.declared.values.ScalarValue.{ScalarValue}
use Rattle.vx_column.specs.declared.cells.Cells.{Cells}
use Rattle.vx_column.specs.declared.cells.Cells.TheVariants.{Constant, Rows, Truths, Numbers, Columns, Masked}
use Rattle.vx_column.specs.Columns.{Column, column, row_at, rows_fit, values_fit, seen, seen_rows, kept_rows, masked, zip_rows}
use Rattle.vx_column.specs.ColumnEqual.{val_feed}
use Rattle.vx_column.specs.ColumnParts.{keeps_values, AreTruthsOf, AreNumbersOf}
use Rattle.vx_column.specs.PlainValues.{numbers_vals}
use Rattle.vx_words.specs.Truths.{vals_of}
use Rattle.vx_column.specs.StructColumns.{column_types, all_have_rows, struct_row}

-- the structs of the columns' values at each of this many rows
abbrev pub structs_of : List Bytes → List Column → ℕ → List Val
structs_of fs cs n = map (struct_row fs cs None) (range_with_len 0 n)

-- the rows of a type that the parts hold
abbrev pub cell_rows : Ty → Cells → List Val
cell_rows t (Constant x n) = replicate n (seen t x)
cell_rows t (Rows xs) = seen_rows t xs.value.items
cell_rows t (Truths ts) = vals_of ts.value
cell_rows t (Numbers ns) = numbers_vals ns.value
cell_rows t (Columns cs n) = structs_of (field_names (fields_of t)) cs.value.items n
cell_rows t (Masked c ns) = zip_rows masked c.value.rows (vals_of ns.value)

-- whether the rows of each column are of its type
abbrev pub all_rows_fit : List Column → Bool
all_rows_fit [] = true
all_rows_fit (c ∷ cs) = rows_fit c.ty c.rows && all_rows_fit cs

-- the columns are those of the fields of a struct type that isn't nullable, and each has this many rows of its type
pub record AreFieldsOf (t : Ty) (cs : List Column) (n : ℕ) : Type 0 where
  pub shape : t ≡ struct_ty (fields_of t) NonNullable
  pub types : column_types cs ≡ field_types (fields_of t)
  pub lengths : all_have_rows n cs ≡ true
  pub fit : all_rows_fit cs ≡ true

-- a column's rows are the structs of these columns' values
pub record AreStructsOf (c : Column) (cs : List Column) : Type 0 where
  pub fields : AreFieldsOf c.ty cs (length c.rows)
  pub rows : structs_of (field_names (fields_of c.ty)) cs (length c.rows) ≡ c.rows

-- the values are those of a type of texts or lists that isn't nullable
pub record AreValuesOf (t : Ty) (xs : List ScalarValue) : Type 0 where
  pub fit : values_fit t xs ≡ true
  pub whole : is_nullable (nullability_of t) ≡ false
  pub no_structs : keeps_values t ≡ true
  pub no_truths : is_bool_ty t ≡ false
  pub no_numbers : is_int_ty t ≡ false

-- whether columns of a type are masked by truths that stand beside them: those of a type that isn't nullable, and neither boolean nor an integer type
abbrev pub masks_apart : Ty → Bool
masks_apart t = not (is_nullable (nullability_of t)) && (not (is_bool_ty t) && not (is_int_ty t))

-- the type is that of the column, and null beside it; and there is a truth for each row
pub record AreMaskedOf (t : Ty) (c : Column) (ts : List (Option Bool)) : Type 0 where
  pub whole : t ≡ with_nullability c.ty Nullable
  pub apart : masks_apart c.ty ≡ true
  pub lengths : length ts ≡ length c.rows
  pub fit : rows_fit c.ty c.rows ≡ true

-- the parts are those of a column of the type
abbrev pub ArePartsOf : Ty → Cells → Type 0
ArePartsOf t (Constant x n) = fits (raw_view x) t ≡ true
ArePartsOf t (Rows xs) = AreValuesOf t xs.value.items
ArePartsOf t (Truths ts) = AreTruthsOf t ts.value
ArePartsOf t (Numbers ns) = AreNumbersOf t ns.value
ArePartsOf t (Columns cs n) = AreFieldsOf t cs.value.items n
ArePartsOf t (Masked c ns) = AreMaskedOf t c.value ns.value

-- the column with the rows where the values are true
abbrev pub kept_column : List Val → Column → Column
kept_column ks c = column c.ty (kept_rows c.rows ks)

-- the column is the one at a place
abbrev pub HasAtPlace : List Column → ℕ → Column → Type 0
HasAtPlace cs p c = (d : Column) → c ≡ slice_index_or cs p d

-- the value is one of the column's type
abbrev pub HasFit : Column → ScalarValue → Type 0
HasFit c x = fits (raw_view x) c.ty ≡ true

-- the value stands for what the column has at a row
abbrev pub HasAt : ℕ → Column → ScalarValue → Type 0
HasAt i c x = row_at c i ≡ seen c.ty x

-- two columns have the same value at a row
abbrev pub SameAt : ℕ → Column → Column → Type 0
SameAt i c d = row_at c i ≡ row_at d i

-- what a hash takes in of columns' values at a row, as the members of a struct
abbrev pub fields_feed : List Column → ℕ → HashWrites
fields_feed [] i = fed.u8 0
fields_feed (c ∷ cs) i = fed.u8 1 ++ val_feed (row_at c i) ++ fields_feed cs i
