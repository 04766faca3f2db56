use Rattle.std.proofs.Common.{length}
use Rattle.vx_tokens.proofs.RunLemmas.{IsQuoting}
use Rattle.vx_tokens.proofs.lexing.quoted_front.Given as goal

-- what was found so far stands before what is left to find
abbrev pub invariant-loop-first : goal.invariant-loop-first
invariant-loop-first l = IsQuoting l.mark l.bytes l.inner.items l.rest

abbrev pub decreases-loop-first : goal.decreases-loop-first
decreases-loop-first l = length l.rest
