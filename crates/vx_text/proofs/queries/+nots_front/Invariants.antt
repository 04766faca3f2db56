use Rattle.std.proofs.Common.{length}
use Rattle.vx_text.proofs.queries.+nots_front.Given as goal

abbrev pub decreases-nots_front : goal.decreases-nots_front
decreases-nots_front l = length l.tokens.now
