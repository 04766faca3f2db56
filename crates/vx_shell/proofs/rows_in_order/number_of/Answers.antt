use Rattle.std.proofs.Common.{refl, arith}
use Rattle.vx_shell.proofs.BlockSums.{few_rows}
use Rattle.vx_shell.proofs.rows_in_order.number_of.Goals as goal

pub returns-clause-rows : goal.returns-clause-rows
returns-clause-rows c = few_rows c.args.lengths.now c.args.lengths.now refl c.requires (λ k. omega (arith, (c.type_inv.lengths k).fits))
