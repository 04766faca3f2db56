-- What bytes hold as a file, or why they hold none, as a function that computes. The laws say that it is what the bytes hold.
use Rattle.std.specs.Prelude.{nat_eq, cond, take, drop, length, Option, Some, None, Result, Ok, Err}
use Rattle.std.specs.Str.{bytes_eq}
use Rattle.vx_dtype.specs.Types.{Bytes}
use Rattle.vx_zones.specs.declared.errors.ZoneError.{ZoneError}
use Rattle.vx_zones.specs.Zoning.{broken_rule}
use Rattle.vx_laws_file.specs.FileForms.{mark, Header, FileContent}
use Rattle.vx_laws_file.specs.Opening.{IsOpened, FileRefusal, bad_magic, bad_header, bad_zones, bad_end, IsRefusedFile, all_lengths, content_with}
use Rattle.vx_laws_file.specs.HeaderReading.{front_at}

-- the answer for a header and what is left behind it, where the first rule that its statistics break is known
abbrev pub opened_with : Header → Bytes → Option ZoneError → Result FileContent FileRefusal
opened_with h rest (Some e) = Err (bad_zones e)
opened_with h rest None = cond (nat_eq (length rest) (all_lengths h)) (Ok (content_with h rest)) (Err bad_end)

-- the answer behind the mark, by the header there
abbrev pub opened_behind : Option (Header × Bytes) → Result FileContent FileRefusal
opened_behind None = Err bad_header
opened_behind (Some x) = opened_with x.0 x.1 (broken_rule x.0.zones)

-- what bytes hold as a file, or why they hold none
unfoldable pub opened_of : Bytes → Result FileContent FileRefusal
opened_of bytes = cond (bytes_eq (take (length mark) bytes) mark) (opened_behind (front_at (drop (length mark) bytes))) (Err bad_magic)

-- the answer is what the bytes hold, or why they hold none
abbrev pub IsFileAnswer : Bytes → Result FileContent FileRefusal → Type 0
IsFileAnswer bytes (Ok content) = IsOpened bytes content
IsFileAnswer bytes (Err r) = IsRefusedFile bytes r
