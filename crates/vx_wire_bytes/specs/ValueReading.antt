-- For the checker: no public clause cites this.
-- Reading values from left to right, each of a type that is known.
use Rattle.std.specs.Prelude.{ℕ, zero, suc, ◌+◌, ◌*◌, ◌-◌, ◌^◌, ℤ, pos, negsuc, int_le, Bool, true, false, [], ◌∷◌, Option, Some, None, if◌then◌else◌}
use Rattle.vx_dtype.specs.Types.{Bytes, Ty, bool_ty, int_ty, text_ty, list_ty, struct_ty, Fields, no_fields, field}
use Rattle.vx_dtype.specs.TypeRules.{nullability_of}
use Rattle.vx_dtype.specs.Values.{Raw, raw_null, raw_bool, raw_int, raw_text, raw_list, raw_struct, Raws, no_raws, raw}
use Rattle.vx_dtype.specs.Fits.{greatest}
use Rattle.vx_dtype.specs.declared.PType.{PType}
use Rattle.vx_dtype.specs.declared.Nullability.{Nullability}
use Rattle.vx_dtype.specs.declared.Nullability.TheVariants.{NonNullable, Nullable}
use Rattle.vx_wire_bytes.specs.Reading.{◌>>=◌, number_at, text_at}
use Rattle.vx_wire_bytes.specs.ValueForms.{width_of}

-- the number of so many bytes at the front, the least first, and the bytes after them
abbrev pub little_endian_at : ℕ → Bytes → Option (ℕ × Bytes)
little_endian_at zero bytes = Some (0, bytes)
little_endian_at (suc more) [] = None
little_endian_at (suc more) (b ∷ bytes) = little_endian_at more bytes >>= λ n. Some (b + 256 * n.0, n.1)

-- the number of an integer type whose two's complement is given
abbrev pub of_twos_complement : PType → ℕ → ℤ
of_twos_complement p n = if int_le (pos n) (greatest p) then pos n else negsuc (256 ^ width_of p - (n + 1))

-- a number of an integer type at the front
unfoldable pub integer_at : PType → Bytes → Option (ℤ × Bytes)
integer_at p bytes = little_endian_at (width_of p) bytes >>= λ n. Some (of_twos_complement p n.0, n.1)

-- the truth value of a byte
abbrev pub truth_of : ℕ → Option Bool
truth_of zero = Some false
truth_of (suc zero) = Some true
truth_of (suc (suc n)) = None

-- one value per kind, each behind the byte that says that it isn't null
abbrev pub bool_value_at : Bytes → Option (Raw × Bytes)
bool_value_at [] = None
bool_value_at (b ∷ rest) = truth_of b >>= λ truth. Some (raw_bool truth, rest)

abbrev pub int_value_at : PType → Bytes → Option (Raw × Bytes)
int_value_at p bytes = integer_at p bytes >>= λ i. Some (raw_int i.0, i.1)

abbrev pub text_value_at : Bytes → Option (Raw × Bytes)
text_value_at bytes = text_at bytes >>= λ s. Some (raw_text s.0, s.1)

-- so many elements, each read by a given function
unfoldable pub elements_with : (Bytes → Option (Raw × Bytes)) → ℕ → Bytes → Option (Raws × Bytes)
elements_with read zero bytes = Some (no_raws, bytes)
elements_with read (suc k) bytes = do
  x ← read bytes
  xs ← elements_with read k x.1
  Some (raw x.0 xs.0, xs.1)

unfoldable pub all_elements_with : (Bytes → Option (Raw × Bytes)) → Bytes → Option (Raws × Bytes)
all_elements_with read bytes = number_at bytes >>= λ k. elements_with read k.0 k.1

abbrev pub list_value_with : (Bytes → Option (Raw × Bytes)) → Bytes → Option (Raw × Bytes)
list_value_with read bytes = all_elements_with read bytes >>= λ xs. Some (raw_list xs.0, xs.1)

-- the null of a type that has one
abbrev pub null_at : Nullability → Bytes → Option (Raw × Bytes)
null_at NonNullable rest = None
null_at Nullable rest = Some (raw_null, rest)

-- the byte that says whether a value is null, and what its kind has where it isn't
abbrev pub marked_with : Nullability → (Bytes → Option (Raw × Bytes)) → Bytes → Option (Raw × Bytes)
marked_with n kind [] = None
marked_with n kind (zero ∷ rest) = null_at n rest
marked_with n kind (suc zero ∷ rest) = kind rest
marked_with n kind (suc (suc mark) ∷ rest) = None

unfoldable mutual
  -- what the kind of a type has
  pub kind_at : Ty → Bytes → Option (Raw × Bytes)
  kind_at (bool_ty n) bytes = bool_value_at bytes
  kind_at (int_ty p n) bytes = int_value_at p bytes
  kind_at (text_ty n) bytes = text_value_at bytes
  kind_at (list_ty e n) bytes = list_value_with (marked_with (nullability_of e) (kind_at e)) bytes
  kind_at (struct_ty fs n) bytes = members_at fs bytes >>= λ xs. Some (raw_struct xs.0, xs.1)

  -- a value for each field
  pub members_at : Fields → Bytes → Option (Raws × Bytes)
  members_at no_fields bytes = Some (no_raws, bytes)
  members_at (field f t fs) bytes = marked_with (nullability_of t) (kind_at t) bytes >>= λ x. members_at fs x.1 >>= λ xs. Some (raw x.0 xs.0, xs.1)

-- a value of a type at the front, and the bytes after it
abbrev pub value_at : Ty → Bytes → Option (Raw × Bytes)
value_at t bytes = marked_with (nullability_of t) (kind_at t) bytes
