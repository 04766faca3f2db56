-- What the calls that may refuse answer.
use Rattle.std.specs.Prelude.{◌≡◌, ℕ, unwrap_or, Bool, true, false, cond, List, [], ◌∷◌, map, Option, Some, None, Result, Ok, Err}
use Rattle.vx_dtype.specs.Types.{Bytes, Ty, Fields, bool_ty}
use Rattle.vx_dtype.specs.StructTypes.{field_types}
use Rattle.vx_dtype.specs.declared.Nullability.TheVariants.{NonNullable}
use Rattle.std.specs.List.{slice_get}
use Rattle.vx_dtype.specs.TypeRules.{no_name_twice, field_type, fields_of, nullability_of, is_nullable, widened}
use Rattle.vx_dtype.specs.Fits.{fields_fit}
use Rattle.vx_dtype.specs.declared.Nullability.{Nullability}
use Rattle.vx_dtype.specs.Structs.{field_of}
use Rattle.vx_dtype.specs.Values.{Raw, raw_null, raw_list, Val, null_val, struct_val, fault, members_valued}
use Rattle.vx_dtype.specs.RawViews.{raw_view, raws_of}
use Rattle.vx_dtype.specs.declared.values.ScalarValue.{ScalarValue}
use Rattle.std.specs.declared.vec.Vec.{Vec}
use Rattle.std.specs.declared.alloc.Global.{Global}
use Rattle.vx_column.specs.declared.errors.ColumnError.{ColumnError}
use Rattle.vx_column.specs.declared.errors.ColumnError.TheVariants.{NoMemory, WrongValue, DuplicateField, UnknownField}
use Rattle.vx_column.specs.Columns.{Column, column, raws_fit, raw_rows, values_fit, seen_rows}

-- the refusal where the condition doesn't hold, else the answer
abbrev pub unless : Bool → ColumnError → Result Column ColumnError → Result Column ColumnError
unless b e answer = cond b answer (Err e)

-- the answer is the one that is told, but for want of memory, which may come at any time
abbrev pub AnswersColumn : Result Column ColumnError → Result Column ColumnError → Type 0
AnswersColumn (Err NoMemory) told = Unit {0}
AnswersColumn answer told = answer ≡ told

-- the raw value of an optional one: null where there is none
abbrev pub optional_raw : {A : Type 0} → (A → Raw) → Option A → Raw
optional_raw f None = raw_null
optional_raw f (Some x) = f x

-- the column of a type and raw values: WrongValue where one of them isn't of the type, else DuplicateField where a name stands twice in a struct of the type
abbrev pub column_of_raws : Ty → List Raw → Result Column ColumnError
column_of_raws t xs = unless (raws_fit t xs) WrongValue (unless (no_name_twice t) DuplicateField (Ok (column t (raw_rows t xs))))

-- the raw value of a list of values
abbrev pub list_raw : Vec ScalarValue Global → Raw
list_raw xs = raw_list (raws_of (map raw_view xs.items))

-- whether no row is a fault
abbrev pub no_faults : List Val → Bool
no_faults [] = true
no_faults (fault ∷ vs) = false
no_faults (v ∷ vs) = no_faults vs

-- the column, but where a row is a fault the refusal
abbrev pub unless_faulty : ColumnError → Column → Result Column ColumnError
unless_faulty e c = unless (no_faults c.rows) e (Ok c)

-- values of the type that stand for the rows; none exactly where a row is a fault
abbrev pub GivesUnlessFaulty : Ty → List Val → Option (List ScalarValue) → Type 0
GivesUnlessFaulty t rows None = no_faults rows ≡ false
GivesUnlessFaulty t rows (Some xs) = (values_fit t xs ≡ true) × (seen_rows t xs ≡ rows)

-- the column of a field of this type, nullable also where the struct is; UnknownField where there is no type
abbrev pub found_column : Bytes → Column → Option Ty → Result Column ColumnError
found_column f c None = Err UnknownField
found_column f c (Some t) = Ok (column (widened t (nullability_of c.ty)) (map (field_of f) c.rows))

-- the field's column: UnknownField where there is none of this name; its type is nullable also where the struct's is
abbrev pub field_column : Bytes → Column → Result Column ColumnError
field_column f c = found_column f c (field_type f (fields_of c.ty))

-- the type of the field at a place
abbrev pub type_at_place : Fields → ℕ → Ty
type_at_place fs i = unwrap_or (slice_get (field_types fs) i) (bool_ty NonNullable)

-- the values of the fields of a struct of this type; none where it is null
abbrev pub PartsOf : Fields → Nullability → Val → Option (List ScalarValue) → Type 0
PartsOf fs n v None = (is_nullable n ≡ true) × (v ≡ null_val)
PartsOf fs n v (Some xs) = (fields_fit (raws_of (map raw_view xs)) fs ≡ true) × (v ≡ struct_val (members_valued (raws_of (map raw_view xs)) fs))
