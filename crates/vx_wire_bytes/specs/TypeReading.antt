-- For the checker: no public clause cites this.
-- Reading types from left to right.
use Rattle.std.specs.Prelude.{ℕ, zero, suc, [], ◌∷◌, Option, Some, None}
use Rattle.vx_dtype.specs.Types.{Bytes, Ty, bool_ty, int_ty, text_ty, list_ty, struct_ty, Fields, no_fields, field}
use Rattle.vx_dtype.specs.TypeRules.{null_numbered, ptype_numbered}
use Rattle.vx_dtype.specs.declared.Nullability.{Nullability}
use Rattle.vx_wire_bytes.specs.Reading.{◌>>=◌, number_at, text_at}

-- one type per kind, where types that are a level less deep are read by a given function
abbrev pub int_at : Nullability → Bytes → Option (Ty × Bytes)
int_at n [] = None
int_at n (w ∷ rest) = ptype_numbered w >>= λ p. Some (int_ty p n, rest)

abbrev pub list_with : (Bytes → Option (Ty × Bytes)) → Nullability → Bytes → Option (Ty × Bytes)
list_with read n bytes = read bytes >>= λ e. Some (list_ty e.0 n, e.1)

-- so many fields, each a name and a type
unfoldable pub fields_with : (Bytes → Option (Ty × Bytes)) → ℕ → Bytes → Option (Fields × Bytes)
fields_with read zero bytes = Some (no_fields, bytes)
fields_with read (suc k) bytes = do
  f ← text_at bytes
  t ← read f.1
  fs ← fields_with read k t.1
  Some (field f.0 t.0 fs.0, fs.1)

unfoldable pub all_fields_with : (Bytes → Option (Ty × Bytes)) → Bytes → Option (Fields × Bytes)
all_fields_with read bytes = number_at bytes >>= λ k. fields_with read k.0 k.1

abbrev pub struct_with : (Bytes → Option (Ty × Bytes)) → Nullability → Bytes → Option (Ty × Bytes)
struct_with read n bytes = all_fields_with read bytes >>= λ fs. Some (struct_ty fs.0 n, fs.1)

abbrev pub kind_with : (Bytes → Option (Ty × Bytes)) → ℕ → Nullability → Bytes → Option (Ty × Bytes)
kind_with read zero n bytes = Some (bool_ty n, bytes)
kind_with read (suc zero) n bytes = int_at n bytes
kind_with read (suc (suc zero)) n bytes = Some (text_ty n, bytes)
kind_with read (suc (suc (suc zero))) n bytes = list_with read n bytes
kind_with read (suc (suc (suc (suc zero)))) n bytes = struct_with read n bytes
kind_with read (suc (suc (suc (suc (suc tag))))) n bytes = None

-- the kind and the nullability are two bytes
abbrev pub tagged_with : (Bytes → Option (Ty × Bytes)) → Bytes → Option (Ty × Bytes)
tagged_with read [] = None
tagged_with read (tag ∷ []) = None
tagged_with read (tag ∷ null ∷ rest) = null_numbered null >>= λ n. kind_with read tag n rest

-- a type at the front that is no deeper than so much, and the bytes after it
unfoldable pub type_at : ℕ → Bytes → Option (Ty × Bytes)
type_at zero bytes = None
type_at (suc deep) bytes = tagged_with (type_at deep) bytes
