-- Fields that are read at the front of bytes.
use Rattle.std.proofs.Common.{◌≡◌, sym, ap, ℕ, ◌≤◌, Option, Some, None, length, drop, arith}
use Rattle.std.proofs.lemmas.List.{length-append}
use Rattle.vx_dtype.specs.Types.{Bytes}
use Rattle.vx_wire_bytes.specs.Fields.{IsFieldAt}
use Rattle.vx_wire_bytes.proofs.NumberLemmas.{IsBytes}
use Rattle.vx_laws_file.proofs.Readers.{IsReader, field_read, no_field_read}

module _ {A : Type 0} (spelling : A → Bytes) (P : A → Type 0) (read : Bytes → Option (A × Bytes)) (reader : IsReader spelling P read) where
  -- what stands at the front is read there, with what is behind it
  pub front_read : (bytes : Bytes) (x : A) (after : ℕ) → IsFieldAt spelling P bytes 0 (Some (x, after)) → Some (x, drop after bytes) ≡ read bytes
  front_read bytes x after h = sym (field_read spelling P read reader bytes 0 x after h)

  -- where nothing stands there nothing is read
  pub no_front_read : (bytes : Bytes) → IsBytes bytes → IsFieldAt spelling P bytes 0 None → None ≡ read bytes
  no_front_read bytes here h = sym (no_field_read spelling P read reader bytes 0 here h)

-- a field ends where the bytes end, or before
pub field_within : {A : Type 0} (spelling : A → Bytes) (P : A → Type 0) (bytes : Bytes) (x : A) (after : ℕ) → IsFieldAt spelling P bytes 0 (Some (x, after)) → after ≤ length bytes
field_within spelling P bytes x after h = omega (arith, h.1.ends, ap length h.1.stands, length-append (spelling x) (drop after bytes))
