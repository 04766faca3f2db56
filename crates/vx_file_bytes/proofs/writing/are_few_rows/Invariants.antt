use Rattle.vx_file_bytes.proofs.WritingLoops.{IsTaking}
use Rattle.vx_file_bytes.proofs.writing.are_few_rows.Given as goal

abbrev pub invariant-loop-i : goal.invariant-loop-i
invariant-loop-i l = IsTaking 1048576 l.lengths l.i l.left
