use Rattle.std.proofs.Common.{arith}
use Rattle.vx_generated.proofs.NumberLemmas.{half-fits, v_bound-fits}
use Rattle.vx_generated.proofs.expressions.filter.Goals as goal

pub constant_of-requires : goal.constant_of-requires
constant_of-requires c = half-fits c.args.rows (omega (arith, c.ranges.rows.fits))

pub constant_of-requires-2 : goal.constant_of-requires-2
constant_of-requires-2 c = v_bound-fits
