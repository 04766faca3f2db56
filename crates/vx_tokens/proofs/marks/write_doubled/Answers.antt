use Rattle.std.proofs.Common.{rules}
use Rattle.std.proofs.Output.{has_written_append, has_written_of_eq}
use Rattle.vx_tokens.proofs.MarkLemmas.{doubled_push}
use Rattle.vx_tokens.proofs.marks.write_doubled.Goals as goal

pub loop-c-preserved : goal.loop-c-preserved
loop-c-preserved g c = λ p.
    has_written_of_eq _ _ _ _ _ (doubled_push c.args.mark c.loop-c.yielded c.in-Some.c) (has_written_append _ _ _ _ _ _ (c.loop-c.invariant p) (search rules))
