-- What a cell of a CSV is at a type: the null text is null, and each other cell a truth, a whole number or a text as it stands.
use Rattle.std.specs.Prelude.{ℕ, ℤ, ◌==◌, Bool, true, false, ◌&&◌, cond, List, [], ◌∷◌, codes, Option, Some, None, is_some, unwrap_or}
use Rattle.std.specs.List.{list_all}
use Rattle.std.specs.Str.{bytes_eq}
use Rattle.csv.specs.Records.{field_at}
use Rattle.vx_dtype.specs.declared.PType.{PType}
use Rattle.vx_dtype.specs.Types.{Bytes, Ty, bool_ty, int_ty, text_ty, list_ty, struct_ty}
use Rattle.vx_dtype.specs.TypeRules.{nullability_of, is_nullable}
use Rattle.vx_dtype.specs.Values.{Raw, raw_null, raw_bool, raw_int, raw_text, Val, valued}
use Rattle.vx_dtype.specs.Fits.{in_range}
use Rattle.vx_tokens.specs.Tokens.{is_digit, is_number}
use Rattle.vx_tokens.specs.Numbers.{integer_of}

-- whether bytes are a number as it is written: decimal digits, at least one, and no 0 before others
abbrev pub is_written_number : Bytes → Bool
is_written_number digits = is_number digits && list_all is_digit digits

-- the number of digits as they are written, with a minus before them or without; none from 2 ^ 64 on, which no integer type has
abbrev pub written_number : Bool → Bytes → Option ℤ
written_number negative digits = cond (is_written_number digits) (integer_of negative digits) None

-- the number behind a minus; none of 0, which is written without one
abbrev pub negative_number : Bytes → Option ℤ
negative_number [] = None
negative_number (b ∷ digits) = cond (b == 48) None (written_number true (b ∷ digits))

-- the whole number that a cell is: decimal digits with no 0 before others, behind a minus where it is below 0
abbrev pub whole_number : Bytes → Option ℤ
whole_number [] = None
whole_number (b ∷ bytes) = cond (b == 45) (negative_number bytes) (written_number false (b ∷ bytes))

-- the truth that a cell is
abbrev pub truth_of : Bytes → Option Bool
truth_of s = cond (bytes_eq s (codes "true")) (Some true) (cond (bytes_eq s (codes "false")) (Some false) None)

-- the raw values of a truth, and of a number where it is one of the type
abbrev pub truth_raw : Option Bool → Option Raw
truth_raw None = None
truth_raw (Some b) = Some (raw_bool b)

abbrev pub number_raw : PType → Option ℤ → Option Raw
number_raw p None = None
number_raw p (Some i) = cond (in_range p i) (Some (raw_int i)) None

-- what a cell is that isn't the null text: of a boolean type `true` or `false`, of an integer type a whole number in its range, of a text type each; of a list
-- or a struct none
abbrev pub told_raw : Ty → Bytes → Option Raw
told_raw (bool_ty n) s = truth_raw (truth_of s)
told_raw (int_ty p n) s = number_raw p (whole_number s)
told_raw (text_ty n) s = Some (raw_text s)
told_raw (list_ty t n) s = None
told_raw (struct_ty fs n) s = None

-- null, where the type is nullable
abbrev pub null_raw : Ty → Option Raw
null_raw t = cond (is_nullable (nullability_of t)) (Some raw_null) None

-- the raw value of a type that a cell is, and none where it is no value of the type: the null text is null, whatever the type
abbrev pub cell_raw : Bytes → Ty → Bytes → Option Raw
cell_raw null t s = cond (bytes_eq s null) (null_raw t) (told_raw t s)

-- whether a cell is a value of a type
abbrev pub takes : Bytes → Ty → Bytes → Bool
takes null t s = is_some (cell_raw null t s)

-- the value of a type that a cell is; null where it is no value of the type, which no table holds
abbrev pub raw_or_null : Bytes → Ty → Bytes → Raw
raw_or_null null t s = unwrap_or (cell_raw null t s) raw_null

abbrev pub cell_val : Bytes → Ty → Bytes → Val
cell_val null t s = valued (raw_or_null null t s) t

-- the cell of a row at a place, counted from 0; the empty text past the last
abbrev pub cell_at : ℕ → List Bytes → Bytes
cell_at i row = unwrap_or (field_at row i) []
