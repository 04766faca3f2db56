-- The wire form of values, each of a type that is known.
use Rattle.std.specs.Prelude.{◌≡◌, ℕ, zero, suc, ◌+◌, ◌-◌, ◌/◌, ◌%◌, ◌^◌, ℤ, pos, negsuc, Bool, true, false, List, [], ◌∷◌, ◌++◌, map, Option}
use Rattle.vx_dtype.specs.Types.{Bytes, Ty, int_ty, list_ty, struct_ty, Fields, no_fields, field}
use Rattle.vx_dtype.specs.Values.{Raw, raw_null, raw_bool, raw_int, raw_text, raw_list, raw_struct, Raws, no_raws, raw}
use Rattle.vx_dtype.specs.Fits.{fits}
use Rattle.vx_dtype.specs.RawViews.{raw_view, raws_of}
use Rattle.vx_dtype.specs.declared.values.ScalarValue.{ScalarValue}
use Rattle.vx_dtype.specs.declared.PType.{PType}
use Rattle.vx_dtype.specs.declared.PType.TheVariants.{U8, U16, U32, U64, I8, I16, I32, I64}
use Rattle.vx_wire_bytes.specs.Numbers.{number_bytes, piece_bytes}
use Rattle.vx_wire_bytes.specs.Fields.{IsNumber, IsText, IsFieldAt}

-- the byte of a truth value
abbrev pub truth_byte : Bool → ℕ
truth_byte false = 0
truth_byte true = 1

-- how many bytes the numbers of an integer type have
abbrev pub width_of : PType → ℕ
width_of U8 = 1
width_of U16 = 2
width_of U32 = 4
width_of U64 = 8
width_of I8 = 1
width_of I16 = 2
width_of I32 = 4
width_of I64 = 8

-- so many bytes of a number, the least first
abbrev pub little_endian : ℕ → ℕ → Bytes
little_endian zero n = []
little_endian (suc more) n = n % 256 ∷ little_endian more (n / 256)

-- the two's complement of a number in so many bytes
abbrev pub twos_complement : ℕ → ℤ → ℕ
twos_complement width (pos n) = n
twos_complement width (negsuc n) = 256 ^ width - (n + 1)

-- the bytes of a number of an integer type
unfoldable pub integer_bytes : PType → ℤ → Bytes
integer_bytes p i = little_endian (width_of p) (twos_complement (width_of p) i)

-- how many raw values stand in a list
abbrev pub raws_number : Raws → ℕ
raws_number no_raws = 0
raws_number (raw x xs) = 1 + raws_number xs

abbrev mutual
  -- the bytes of a value of a type: 0 where it is null, or else 1 and what its kind has
  pub value_bytes : Ty → Raw → Bytes
  value_bytes t raw_null = 0 ∷ []
  value_bytes t (raw_bool b) = 1 ∷ truth_byte b ∷ []
  value_bytes (int_ty p n) (raw_int i) = 1 ∷ integer_bytes p i
  value_bytes t (raw_int i) = []
  value_bytes t (raw_text s) = 1 ∷ piece_bytes s
  value_bytes (list_ty e n) (raw_list xs) = 1 ∷ (number_bytes (raws_number xs) ++ elements_bytes e xs)
  value_bytes t (raw_list xs) = []
  value_bytes (struct_ty fs n) (raw_struct xs) = 1 ∷ members_bytes fs xs
  value_bytes t (raw_struct xs) = []

  -- the bytes of the elements of a list
  pub elements_bytes : Ty → Raws → Bytes
  elements_bytes t no_raws = []
  elements_bytes t (raw x xs) = value_bytes t x ++ elements_bytes t xs

  -- the bytes of the fields' values of a struct
  pub members_bytes : Fields → Raws → Bytes
  members_bytes no_fields xs = []
  members_bytes (field f t fs) no_raws = []
  members_bytes (field f t fs) (raw x xs) = value_bytes t x ++ members_bytes fs xs

abbrev mutual
  -- each text in a raw value is as given, and each number of elements has a spelling
  pub TextsAre : (Bytes → Type 0) → Raw → Type 0
  TextsAre Given raw_null = Unit {0}
  TextsAre Given (raw_bool b) = Unit {0}
  TextsAre Given (raw_int i) = Unit {0}
  TextsAre Given (raw_text s) = Given s
  TextsAre Given (raw_list xs) = IsNumber (raws_number xs) × AllTextsAre Given xs
  TextsAre Given (raw_struct xs) = AllTextsAre Given xs

  pub AllTextsAre : (Bytes → Type 0) → Raws → Type 0
  AllTextsAre Given no_raws = Unit {0}
  AllTextsAre Given (raw x xs) = TextsAre Given x × AllTextsAre Given xs

-- the bytes of the elements of a list: how many, and each
abbrev pub list_bytes : Ty → Raws → Bytes
list_bytes t xs = number_bytes (raws_number xs) ++ elements_bytes t xs

-- the raw values that values of the code stand for, in order
abbrev pub raws_view : List ScalarValue → Raws
raws_view xs = raws_of (map raw_view xs)

-- a raw value that has a spelling at a type: one of the type, whose texts and numbers of elements have spellings
pub record IsValue (t : Ty) (x : Raw) : Type 0 where
  pub fit : fits x t ≡ true
  pub texts : TextsAre IsText x

-- the answer is the value of the type whose spelling stands at the place, with the place after it, or none where no spelling stands there
abbrev pub IsValueAt : Ty → Bytes → ℕ → Option (Raw × ℕ) → Type 0
IsValueAt t bytes at found = IsFieldAt (value_bytes t) (IsValue t) bytes at found
