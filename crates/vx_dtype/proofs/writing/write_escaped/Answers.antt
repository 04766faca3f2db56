use Rattle.std.proofs.Common.{rules}
use Rattle.std.proofs.Output.{has_written_append, has_written_of_eq}
use Rattle.vx_dtype.proofs.TextLemmas.{escaped_push}
use Rattle.vx_dtype.proofs.writing.write_escaped.Goals as goal

pub loop-c-preserved : goal.loop-c-preserved
loop-c-preserved g c = λ p.
    has_written_of_eq _ _ _ _ _ (escaped_push c.loop-c.yielded c.in-Some.c) (has_written_append _ _ _ _ _ _ (c.loop-c.invariant p) (search rules))
