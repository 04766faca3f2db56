use Rattle.std.proofs.Common.{arith}
use Rattle.vx_wire_bytes.proofs.ValueLemmas.{power_step, power_most}
use Rattle.vx_wire_bytes.proofs.values.+little_endian_front.Goals as goal

pub overflow_mul-result : goal.overflow_mul-result
overflow_mul-result t c = omega (arith, power_step c.args.width c.if-width-eq0.false, power_most c.args.width c.requires, c.in_ok-high.ensures.below)

pub overflow_add-result : goal.overflow_add-result
overflow_add-result t c = omega (arith, power_step c.args.width c.if-width-eq0.false, power_most c.args.width c.requires, c.in_ok-high.ensures.below, c.type_inv.bytes 0)

pub returns-clause-below : goal.returns-clause-below
returns-clause-below t c = omega (arith, power_step c.args.width c.if-width-eq0.false, c.in_ok-high.ensures.below, c.type_inv.bytes 0)
