-- What reading a header answers.
use Rattle.std.specs.Prelude.{◌≡◌, ◌≢◌, Option, Some, None}
use Rattle.vx_dtype.specs.Types.{Bytes}
use Rattle.vx_laws_file.specs.FileForms.{Header, header_bytes, IsHeader}

-- the answer is the header that the bytes spell, or none where they spell none
abbrev pub IsHeaderRead : Bytes → Option Header → Type 0
IsHeaderRead bytes (Some h) = IsHeader h × (bytes ≡ header_bytes h)
IsHeaderRead bytes None = (h : Header) → IsHeader h → bytes ≢ header_bytes h
