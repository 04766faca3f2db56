use Rattle.vx_wire.proofs.SerialLemmas.{AreNamesWritten}
use Rattle.vx_wire.proofs.spelling.push_names.Given as goal

abbrev pub invariant-loop-i : goal.invariant-loop-i
invariant-loop-i l = AreNamesWritten l.fn.out.items l.out.items l.names l.i
