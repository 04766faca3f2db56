use Rattle.std.proofs.Common.{◌≡◌, true, sym, subst}
use Rattle.vx_numbers.specs.Numbers.{NumberList, all_in_range}
use Rattle.vx_numbers.proofs.RangeLemmas.{masked_in_range}
use Rattle.vx_numbers.proofs.numbers.Numbers.mask.Goals as goal

pub invariant_of-result : goal.invariant_of-result
invariant_of-result c =
    subst (λ (list : NumberList). all_in_range list.ptype list.numbers ≡ true) (sym c.in_ok-lanes.ensures)
    (masked_in_range _ _ c.args.nulls.now c.self.invariant)
