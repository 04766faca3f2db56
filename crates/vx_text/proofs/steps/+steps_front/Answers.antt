use Rattle.std.proofs.Common.{rules, ◌≡◌, suc, ◌-◌, arith}
use Rattle.vx_text.specs.Grammar.{steps}
use Rattle.vx_text.proofs.steps.+steps_front.Goals as goal

pub returns : goal.returns
unfolding steps
returns t c = let k : c.args.more ≡ suc (c.args.more - 1) = omega arith in rw k (search rules)
