use Rattle.vx_wire_bytes.proofs.WriteLemmas.{IsWriting}
use Rattle.vx_wire_bytes.proofs.writing.push_number.Given as goal

abbrev pub invariant-loop-rest : goal.invariant-loop-rest
invariant-loop-rest l = IsWriting l.fn.out.items l.out.items l.n l.rest

abbrev pub decreases-loop-rest : goal.decreases-loop-rest
decreases-loop-rest l = l.rest
