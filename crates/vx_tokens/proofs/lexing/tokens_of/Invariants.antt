use Rattle.std.proofs.Common.{length}
use Rattle.vx_tokens.proofs.RunLemmas.{IsCutting}
use Rattle.vx_tokens.proofs.lexing.tokens_of.Given as goal

-- the tokens so far stand before what is left
abbrev pub invariant-loop : goal.invariant-loop
invariant-loop l = IsCutting l.bytes (length l.bytes) l.counter l.tokens.items l.rest
