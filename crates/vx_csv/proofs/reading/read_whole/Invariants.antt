use Rattle.std.proofs.Common.{◌≡◌, drop}
use Rattle.vx_csv.specs.ByteReading.{nothing_read, read_behind, seen}
use Rattle.vx_csv.proofs.reading.read_whole.Given as goal

-- what was read so far, before what is left
abbrev pub invariant-loop-byte : goal.invariant-loop-byte
invariant-loop-byte l = read_behind nothing_read l.fn.text ≡ read_behind (seen l.reading) (drop l.byte-index l.fn.text)
