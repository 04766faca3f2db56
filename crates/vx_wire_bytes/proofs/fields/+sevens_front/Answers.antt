use Rattle.std.proofs.Common.{arith}
use Rattle.vx_wire_bytes.proofs.NumberLemmas.{low_bound, bound_step, bound_most}
use Rattle.vx_wire_bytes.proofs.fields.+sevens_front.Goals as goal

pub returns-then-first-lt128-clause-below : goal.returns-then-first-lt128-clause-below
returns-then-first-lt128-clause-below t c = low_bound _ _ c.if-more-eq0.false c.if-first-lt128.true

pub overflow_mul-result : goal.overflow_mul-result
overflow_mul-result t c = omega (arith, bound_step c.args.more c.if-more-eq0.false, bound_most c.args.more c.requires, c.in_ok-high.ensures.below)

pub overflow_add-result : goal.overflow_add-result
overflow_add-result t c = omega (arith, bound_step c.args.more c.if-more-eq0.false, bound_most c.args.more c.requires, c.in_ok-high.ensures.below, c.type_inv.bytes 0)
