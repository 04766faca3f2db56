use Rattle.vx_tokens.specs.Tokens.{is_of}
use Rattle.vx_tokens.proofs.RunLemmas.{IsRun}
use Rattle.vx_tokens.proofs.lexing.run_front.Given as goal

-- all characters so far are of the class
abbrev pub invariant-loop-i : goal.invariant-loop-i
invariant-loop-i l = IsRun (is_of l.class) l.bytes l.i
