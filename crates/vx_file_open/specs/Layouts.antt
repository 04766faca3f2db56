-- Where the ranges of a file stand, by its header.
use Rattle.std.specs.Prelude.{◌≡◌, ℕ, suc, ◌+◌, ◌≤◌, List, map, length, take, drop, sum, Option, Some, None}
use Rattle.std.specs.List.{slice_get}
use Rattle.std.specs.declared.vec.Vec.{Vec}
use Rattle.std.specs.declared.alloc.Global.{Global}
use Rattle.vx_dtype.specs.Types.{Bytes}
use Rattle.vx_wire_bytes.specs.Fields.{IsShort}
use Rattle.vx_laws_file.specs.FileForms.{Header, header_bytes, IsHeader, front_bytes, FileContent, header_of}
use Rattle.vx_laws_file.specs.Opening.{IsOpened, content_with}
use Rattle.vx_laws_file.specs.FileLaws.{AreBytes}

-- the numbers in a vector, and in each of some
abbrev pub list_of : Vec ℕ Global → List ℕ
list_of ns = ns.items

abbrev pub lists_of : List (Vec ℕ Global) → List (List ℕ)
lists_of nss = map list_of nss

-- how long the mark and the header are
abbrev pub front_length : Header → ℕ
front_length h = length (front_bytes h)

-- what bytes hold that begin with the mark and this header
abbrev pub content_at : Header → Bytes → FileContent
content_at h bytes = content_with h (drop (front_length h) bytes)

-- bytes are a file with this header
pub record IsFileWith (h : Header) (bytes : Bytes) : Type 0 where
  pub are_bytes : AreBytes bytes
  pub opened : IsOpened bytes (content_at h bytes)
  pub same_header : header_of (content_at h bytes) ≡ h

-- what holds of the bytes of a source, where they are told
abbrev pub WhereBytes : Option Bytes → (Bytes → Type 0) → Type 0
WhereBytes None P = Unit {0}
WhereBytes (Some bytes) P = P bytes

-- where the ranges of a block begin, or end for that behind the last one
abbrev pub block_place : ℕ → List (List ℕ) → ℕ → ℕ
block_place front range_lengths block = front + sum (map sum (take block range_lengths))

-- the places of the first blocks, and of the one behind them
pub record HavePlaces (front : ℕ) (range_lengths : List (List ℕ)) (blocks : ℕ) (places : List ℕ) : Type 0 where
  pub number : length places ≡ suc blocks
  pub each : (block : ℕ) → block ≤ blocks → slice_get places block ≡ Some (block_place front range_lengths block)

-- a header that was read, with the places of its blocks
pub record IsLaidOut (h : Header) (places : List ℕ) : Type 0 where
  pub header : IsHeader h
  pub short : IsShort (header_bytes h)
  pub stand : HavePlaces (front_length h) h.range_lengths (length h.range_lengths) places
