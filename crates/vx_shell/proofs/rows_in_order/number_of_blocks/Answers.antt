use Rattle.std.proofs.Common.{◌∙◌, ap, subst, ℕ, List, length, ◌<◌, ◌^◌, arith}
use Rattle.std.specs.List.{sum}
use Rattle.vx_shell.proofs.rows_in_order.number_of_blocks.Goals as goal

pub number_of-requires : goal.number_of-requires
number_of-requires c =
    let same = ap (λ (ns : List ℕ). length ns) c.lengths.ensures.lengths in
    omega (arith, same, c.lengths.ensures.few)

pub returns-clause-number : goal.returns-clause-number
returns-clause-number c = c.number_of.ensures.number ∙ ap (λ (ns : List ℕ). length ns) c.lengths.ensures.lengths

pub returns-clause-rows : goal.returns-clause-rows
returns-clause-rows c = subst (λ (ns : List ℕ). sum ns < 2 ^ 64) c.lengths.ensures.lengths c.number_of.ensures.rows
