use Rattle.vx_passes.specs.Falsifying.{comparison_falsified, or_of}
use Rattle.vx_prune.proofs.FindingLemmas.{stops, either_first_fails, either_second_fails, either_ends}
use Rattle.vx_prune.proofs.ranges.either_falsified.Goals as goal

pub returns-in_err-first : goal.returns-in_err-first
returns-in_err-first g c = either_first_fails (λ k. comparison_falsified k c.args.value.now c.args.upper.now c.args.to) or_of c.from_residual.ensures.0 c.in_err-first.ensures

pub returns-in_err-second : goal.returns-in_err-second
returns-in_err-second g c =
    either_second_fails (λ k. comparison_falsified k c.args.value.now c.args.upper.now c.args.to) or_of c.from_residual-in_err-second.ensures.0 c.in_ok-first.ensures (stops c.in_err-second.ensures)

pub returns : goal.returns
returns g c = either_ends (λ k. comparison_falsified k c.args.value.now c.args.upper.now c.args.to) or_of c.in_ok-first.ensures c.in_ok-second.ensures c.joined_known.ensures
