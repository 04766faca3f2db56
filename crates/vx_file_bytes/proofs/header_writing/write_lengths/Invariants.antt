use Rattle.std.proofs.Common.{ℕ, ◌++◌, length}
use Rattle.vx_wire_bytes.specs.Numbers.{number_bytes}
use Rattle.vx_file_bytes.proofs.WritingLoops.{IsWriting}
use Rattle.vx_file_bytes.proofs.header_writing.write_lengths.Given as goal

abbrev pub invariant-loop-i : goal.invariant-loop-i
invariant-loop-i l = IsWriting number_bytes (λ (n : ℕ). Unit {0}) (λ (n : ℕ). Unit {0}) (l.fn.out.items ++ number_bytes (length l.lengths)) l.out.items l.lengths l.i
