-- What opening a file answers.
use Rattle.std.specs.Prelude.{◌≡◌, ◌≢◌, ℕ, ◌+◌, ◌≤◌, nat_eq, Bool, ◌++◌, length, drop, Option, Some, None, Result, Ok, Err}
use Rattle.vx_dtype.specs.Types.{Bytes}
use Rattle.vx_semantics.specs.Tables.{Zones}
use Rattle.vx_io.specs.Counts.{one_more}
use Rattle.vx_wire_bytes.specs.Fields.{IsNumber, IsShort}
use Rattle.vx_wire_bytes.specs.Numbers.{number_bytes}
use Rattle.vx_zones.specs.Zoning.{broken_rule}
use Rattle.vx_laws_file.specs.FileForms.{mark, Header, header_bytes, IsHeader}
use Rattle.vx_laws_file.specs.Opening.{HasHeader, all_lengths, FileRefusal, bad_magic, bad_header, bad_zones, bad_end, IsRefusedFile}
use Rattle.vx_file_ranges.specs.declared.pieces.PieceError.{PieceError}
use Rattle.vx_file_ranges.specs.declared.pieces.PieceError.TheVariants as pieces
use Rattle.vx_file_open.specs.Layouts.{front_length, IsFileWith}
use Rattle.vx_file_open.specs.declared.errors.FileError.{FileError}
use Rattle.vx_file_open.specs.declared.errors.FileError.TheVariants as errors

-- why a file isn't opened of which a piece isn't read
abbrev pub file_error : PieceError → FileError
file_error pieces.NoMemory = errors.NoMemory
file_error pieces.ReadFault = errors.ReadFault

-- the reason in the bytes that an error tells: want of memory and a read that failed tell none
abbrev pub refusal_of : FileError → Option FileRefusal
refusal_of errors.NoMemory = None
refusal_of errors.ReadFault = None
refusal_of errors.BadMagic = Some bad_magic
refusal_of errors.BadHeader = Some bad_header
refusal_of (errors.BadZones e) = Some (bad_zones e)
refusal_of errors.BadEnd = Some bad_end

-- bytes are refused so, where a reason is told
abbrev pub IsRefusedBy : Bytes → Option FileRefusal → Type 0
IsRefusedBy bytes None = Unit {0}
IsRefusedBy bytes (Some r) = IsRefusedFile bytes r

-- the answer over told bytes: the header of the file that they are, or why they are none
abbrev pub OpensBytes : Bytes → Result Header FileError → Type 0
OpensBytes bytes (Ok h) = IsFileWith h bytes
OpensBytes bytes (Err e) = IsRefusedBy bytes (refusal_of e)

-- how a file that isn't opened leaves the count of the source's faults: higher where a read failed, and as it was with each other refusal
abbrev pub CountsFailure : FileError → ℕ → ℕ → Type 0
CountsFailure errors.ReadFault before now = (before ≤ now) × (one_more before ≤ now)
CountsFailure _ before now = now ≡ before

-- a number that stands behind the mark, with the place behind it
pub record IsNumberAt (n place : ℕ) : Type 0 where
  pub number : IsNumber n
  pub ends : place ≡ length mark + length (number_bytes n)

-- what was read behind the mark: a number, or nothing
abbrev pub IsNumberFound : Option (ℕ × ℕ) → Type 0
IsNumberFound None = Unit {0}
IsNumberFound (Some x) = IsNumberAt x.0 x.1

abbrev pub NumberStands : Option (ℕ × ℕ) → Bytes → Type 0
NumberStands None bytes = (n : ℕ) (rest : Bytes) → IsNumber n → drop (length mark) bytes ≢ number_bytes n ++ rest
NumberStands (Some x) bytes = drop (length mark) bytes ≡ number_bytes x.0 ++ drop x.1 bytes

-- a header that was read, with the place behind it
pub record IsFront (h : Header) (place : ℕ) : Type 0 where
  pub header : IsHeader h
  pub short : IsShort (header_bytes h)
  pub ends : place ≡ front_length h

-- what was read as a header: one, or nothing
abbrev pub IsFrontFound : Option (Header × ℕ) → Type 0
IsFrontFound None = Unit {0}
IsFrontFound (Some x) = IsFront x.0 x.1

-- where the bytes have the mark, it is what stands behind it
abbrev pub FrontStands : Option (Header × ℕ) → Bytes → Type 0
FrontStands None bytes = (h : Header) (rest : Bytes) → ¬ (HasHeader bytes h rest)
FrontStands (Some x) bytes = HasHeader bytes x.0 (drop x.1 bytes)

-- what is answered of a header that was read: its layout where its statistics break no rule, else the first one that they break
abbrev pub LaysOut : Header → Result Header FileError → Type 0
LaysOut h (Ok made) = (made ≡ h) × (broken_rule h.zones ≡ None)
LaysOut h (Err errors.NoMemory) = Unit {0}
LaysOut h (Err (errors.BadZones e)) = broken_rule h.zones ≡ Some e
LaysOut h (Err _) = ⊥

-- what is answered of zones: they are made where they break no rule, else the first one that they break
abbrev pub ZonesOrRefusal : Zones → Result Zones FileError → Type 0
ZonesOrRefusal zones (Ok made) = (made ≡ zones) × (broken_rule zones ≡ None)
ZonesOrRefusal zones (Err errors.NoMemory) = Unit {0}
ZonesOrRefusal zones (Err (errors.BadZones e)) = broken_rule zones ≡ Some e
ZonesOrRefusal zones (Err _) = ⊥

-- whether the bytes behind a header are as many as its ranges have
abbrev pub EndsWell : Header → Bool → Bytes → Type 0
EndsWell h well bytes = well ≡ nat_eq (length bytes) (front_length h + all_lengths h)
