-- What bytes hold as a block file, or the first reason why they are none.
use Rattle.std.specs.Prelude.{◌≡◌, ◌≢◌, ℕ, ◌+◌, List, [], ◌∷◌, ◌++◌, map, length, take, drop, get_or, sum, Some, None}
use Rattle.vx_dtype.specs.Types.{Bytes}
use Rattle.vx_wire_bytes.specs.Fields.{IsShort}
use Rattle.vx_zones.specs.declared.errors.ZoneError.{ZoneError}
use Rattle.vx_zones.specs.Zoning.{broken_rule}
use Rattle.vx_laws_file.specs.FileForms.{mark, Header, header_bytes, IsHeader, front_bytes, FileContent, header_of, ranges_bytes}

-- the mark stands at the front of the bytes
abbrev pub HasMark : Bytes → Type 0
HasMark bytes = (rest : Bytes) × (bytes ≡ mark ++ rest)

-- the mark and this header, behind its length, stand at the front of the bytes, before the rest
pub record HasHeader (bytes : Bytes) (h : Header) (rest : Bytes) : Type 0 where
  pub header : IsHeader h
  pub short : IsShort (header_bytes h)
  pub stands : bytes ≡ front_bytes h ++ rest

-- the bytes are a file that holds this: its statistics break no rule, and nothing stands behind its ranges. A range may hold any bytes
pub record IsOpened (bytes : Bytes) (content : FileContent) : Type 0 where
  pub rules : broken_rule content.zones ≡ None
  pub header : HasHeader bytes (header_of content) (ranges_bytes content.ranges)

-- why bytes are no block file: they have no mark, no header, statistics that break a rule, or another end than the last range has
pub data FileRefusal : Type 0 where
  bad_magic : FileRefusal
  bad_header : FileRefusal
  bad_zones : ZoneError → FileRefusal
  bad_end : FileRefusal

-- how long all ranges are together
abbrev pub all_lengths : Header → ℕ
all_lengths h = sum (map sum h.range_lengths)

-- bytes are refused so: each reason where those before it aren't one
abbrev pub IsRefusedFile : Bytes → FileRefusal → Type 0
IsRefusedFile bytes bad_magic = ¬ (HasMark bytes)
IsRefusedFile bytes bad_header = HasMark bytes × ((h : Header) (rest : Bytes) → ¬ (HasHeader bytes h rest))
IsRefusedFile bytes (bad_zones e) = (h : Header) × (rest : Bytes) × HasHeader bytes h rest × (broken_rule h.zones ≡ Some e)
IsRefusedFile bytes bad_end =
    (h : Header) × (rest : Bytes) × HasHeader bytes h rest × (broken_rule h.zones ≡ None) × (length rest ≢ all_lengths h)

-- bytes cut into pieces of these lengths
abbrev pub cut : List ℕ → Bytes → List Bytes
cut [] bytes = []
cut (n ∷ ns) bytes = take n bytes ∷ cut ns (drop n bytes)

-- bytes cut into the ranges of blocks
abbrev pub cut_blocks : List (List ℕ) → Bytes → List (List Bytes)
cut_blocks [] bytes = []
cut_blocks (ns ∷ nss) bytes = cut ns bytes ∷ cut_blocks nss (drop (sum ns) bytes)

-- what a file with this header holds, whose ranges are these bytes
abbrev pub content_with : Header → Bytes → FileContent
content_with h rest = record { zones = h.zones; ranges = cut_blocks h.range_lengths rest }

-- where the range of a column of a block begins: behind the header, the ranges of the blocks before, and those of the columns before in its block
abbrev pub range_place : Header → ℕ → ℕ → ℕ
range_place h block column =
    length (front_bytes h) + (sum (map sum (take block h.range_lengths)) + sum (take column (get_or h.range_lengths block [])))
