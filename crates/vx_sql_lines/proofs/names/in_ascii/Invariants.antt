use Rattle.std.proofs.Common.{◌≡◌, map, take}
use Rattle.std.specs.String.{string_bytes}
use Rattle.vx_sql_lines.specs.Lines.{ascii_byte}
use Rattle.vx_sql_lines.proofs.names.in_ascii.Given as goal

-- the bytes that were gone over
abbrev pub invariant-loop-byte : goal.invariant-loop-byte
invariant-loop-byte l = string_bytes l.text ≡ map ascii_byte (take l.byte-index l.bytes)
