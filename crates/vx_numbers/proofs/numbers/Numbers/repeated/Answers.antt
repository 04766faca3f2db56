use Rattle.std.proofs.Common.{◌≡◌, true, sym, subst}
use Rattle.vx_numbers.specs.Numbers.{NumberList, all_in_range}
use Rattle.vx_numbers.proofs.RangeLemmas.{repeated_in_range}
use Rattle.vx_numbers.proofs.numbers.Numbers.repeated.Goals as goal

pub invariant_of-result : goal.invariant_of-result
invariant_of-result c =
    subst (λ (list : NumberList). all_in_range list.ptype list.numbers ≡ true) (sym c.in_ok-lanes.ensures)
    (repeated_in_range c.args.ptype c.args.number _ c.requires)
