use Rattle.vx_passes.specs.Falsifying.{bound_of, compared_by}
use Rattle.vx_prune.proofs.FindingLemmas.{stops, asks, asked_stops, both_first_fails, both_second_fails}
use Rattle.vx_prune.proofs.comparisons.bounds_compared.Goals as goal

pub returns-in_err-first : goal.returns-in_err-first
returns-in_err-first g c = both_first_fails (λ k. bound_of k c.args.other c.args.right.now) (compared_by c.args.operator) c.from_residual.ensures.0 c.in_err-first.ensures

pub returns-in_err-second : goal.returns-in_err-second
returns-in_err-second g c =
    both_second_fails (λ k. bound_of k c.args.other c.args.right.now) (compared_by c.args.operator) c.from_residual-in_err-second.ensures.0
    c.in_ok-first.ensures c.in-Some.is (stops c.in_err-second.ensures)

pub returns-in_err-compared_by : goal.returns-in_err-compared_by
returns-in_err-compared_by g c =
    both_second_fails (λ k. bound_of k c.args.other c.args.right.now) (compared_by c.args.operator) c.from_residual-in_err-compared_by.ensures.0
    c.in_ok-first.ensures c.in-Some.is (asked_stops _ _ _ _ _ (asks c.in_ok-second.ensures))
