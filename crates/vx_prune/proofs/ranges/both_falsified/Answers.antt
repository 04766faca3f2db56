use Rattle.vx_passes.specs.Falsifying.{and_of, comparison_falsified}
use Rattle.vx_prune.proofs.FindingLemmas.{stops, asks, asked_stops, both_first_fails, both_second_fails, both_ends}
use Rattle.vx_prune.proofs.ranges.both_falsified.Goals as goal

pub returns-in_err-first : goal.returns-in_err-first
returns-in_err-first g c = both_first_fails (λ k. comparison_falsified k c.args.value.now c.args.upper.now c.args.to) and_of c.from_residual.ensures.0 c.in_err-first.ensures

pub returns-in_err-second : goal.returns-in_err-second
returns-in_err-second g c =
    both_second_fails (λ k. comparison_falsified k c.args.value.now c.args.upper.now c.args.to) and_of c.from_residual-in_err-second.ensures.0
    c.in_ok-first.ensures c.in-Some.is (stops c.in_err-second.ensures)

pub returns-in_err-and : goal.returns-in_err-and
returns-in_err-and g c =
    both_second_fails (λ k. comparison_falsified k c.args.value.now c.args.upper.now c.args.to) and_of c.from_residual-in_err-and.ensures.0
    c.in_ok-first.ensures c.in-Some.is (asked_stops _ _ _ _ _ (asks c.in_ok-second.ensures))

pub returns : goal.returns
returns g c =
    both_ends (λ k. comparison_falsified k c.args.value.now c.args.upper.now c.args.to) and_of c.in_ok-first.ensures c.in-Some.is c.in_ok-second.ensures c.in-Some-2.is c.in_ok-and.ensures
